use Rattle.std.proofs.Common.{rules, ◌≡◌, Option, ◌∙◌, ◌+◌, None, Some, List, [], ◌∷◌, ◌++◌, map, take, sym, subst, slice_index_or}
use Rattle.std.specs.Prelude.{IsSome}
use Rattle.flash_types.specs.declared.ask.AskRegion.{AskRegion}
use Rattle.flash_types.specs.declared.refusal.Cut.{Cut}
use Rattle.replica_state.specs.Reads.{cut_in}
use Rattle.replica_state.proofs.Cutting.{one_more}
use Rattle.replica_state.proofs.reads.cuts_in.Goals as goal

pub unreachable-requires : goal.unreachable-requires
unreachable-requires c =
    let d : AskRegion = record { region = 0; epoch = record { conf_ver = 0; version = 0 }; index = 0 } in
    let some : IsSome (cut_in c.args.table.now.regions (slice_index_or c.args.regions.now c.loop-asked.asked-index d)) = c.requires c.loop-asked.asked-index d c.loop-asked-test.true in
    let none : cut_in c.args.table.now.regions (slice_index_or c.args.regions.now c.loop-asked.asked-index d) ≡ None = sym c.cut.ensures ∙ c.in_default-cut.is in
    let h = subst (λ (o : Option Cut). IsSome o) none some in
    cc h

pub loop-asked-preserved : goal.loop-asked-preserved
loop-asked-preserved c =
    let d : AskRegion = record { region = 0; epoch = record { conf_ver = 0; version = 0 }; index = 0 } in
    let here : cut_in c.args.table.now.regions (slice_index_or c.args.regions.now c.loop-asked.asked-index d) ≡ Some c.in-Some.cut = sym c.cut.ensures ∙ c.in-Some.is in
    let pushed : c.push.new.self.items ≡ c.loop-asked.cuts.items ++ c.in-Some.cut ∷ [] = search rules in
    subst (λ (cuts : List Cut). map (cut_in c.args.table.now.regions) (take (c.loop-asked.asked-index + 1) c.args.regions.now) ≡ map Some cuts) (sym pushed)
    (one_more (cut_in c.args.table.now.regions) c.args.regions.now c.loop-asked.cuts.items c.loop-asked.asked-index d c.in-Some.cut c.loop-asked-test.true here c.loop-asked.invariant)
