use Rattle.std.proofs.Common.{◌≡◌, ◌∙◌, ◌∷◌, [], ◌++◌, sym, ap, subst}
use Rattle.column_file.specs.declared.file.ColumnFile.TheVariants.{Tiny}
use Rattle.delta_layer.specs.Repacked.{CanCompact}
use Rattle.delta_layer.proofs.Repacking.{pair_can_compact}
use Rattle.segment_cases.proofs.pair.one_of_two.Goals as goal

pub compacted-requires : goal.compacted-requires
compacted-requires c =
    let one : c.append.new.self ≡ Tiny 1 c.args.first ∷ [] = c.in-Ok.ensures.ok ∙ ap (λ t. t ++ Tiny 1 c.args.first ∷ []) c.new-layer.ensures in
    let two : c.append-2.new.self ≡ Tiny 1 c.args.first ∷ Tiny 2 c.args.second ∷ [] = c.in-Ok-append.ensures.ok ∙ ap (λ t. t ++ Tiny 2 c.args.second ∷ []) one in
    subst (λ files. CanCompact 0 2 (Tiny 3 c.in_ok-both.both) files) (sym two) (subst (λ block. CanCompact 0 2 (Tiny 3 block) (Tiny 1 c.args.first ∷ Tiny 2 c.args.second ∷ [])) (sym c.in_ok-both.ensures) (pair_can_compact c.args.first c.args.second 1 2 3))
