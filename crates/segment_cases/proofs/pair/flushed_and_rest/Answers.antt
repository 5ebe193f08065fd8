use Rattle.std.proofs.Common.{◌≡◌, ◌∙◌, ◌∷◌, [], ◌++◌, sym, ap, subst}
use Rattle.column_file.specs.declared.file.ColumnFile.TheVariants.{Mem, Tiny}
use Rattle.delta_layer.specs.Repacked.{CanFlush}
use Rattle.delta_layer.proofs.Repacking.{pair_can_flush}
use Rattle.segment_cases.proofs.pair.flushed_and_rest.Goals as goal

pub flushed-requires : goal.flushed-requires
flushed-requires c =
    let one : c.in_ok-layer.layer ≡ Mem c.args.first ∷ [] = c.in_ok-layer.ensures ∙ ap (λ t. t ++ Mem c.args.first ∷ []) c.new.ensures in
    let two : c.in_ok-layer-2.layer ≡ Mem c.args.first ∷ Mem c.args.second ∷ [] = c.in_ok-layer-2.ensures ∙ ap (λ t. t ++ Mem c.args.second ∷ []) one in
    subst (λ files. CanFlush 2 (Tiny 3 c.in_ok-both.both) files) (sym two) (subst (λ block. CanFlush 2 (Tiny 3 block) (Mem c.args.first ∷ Mem c.args.second ∷ [])) (sym c.in_ok-both.ensures) (pair_can_flush c.args.first c.args.second 3))
