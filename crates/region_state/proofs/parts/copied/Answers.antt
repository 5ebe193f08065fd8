use Rattle.std.proofs.Common.{◌∙◌, sym, ap, w64, SFits, rules}
use Rattle.std.proofs.lemmas.Int.{to_z-of_z}
use Rattle.std.proofs.lemmas.Map.Lookups.{exact_signed}
use Rattle.std.specs.BTreeMap.{insert_entry}
use Rattle.std.specs.Cmp.{int_cmp_total}
use Rattle.std.specs.Ordering.{int_cmp}
use Rattle.region_state.specs.State.{united}
use Rattle.region_state.proofs.Joining.{united_anew}
use Rattle.region_state.proofs.parts.copied.Goals as goal

pub loop-handle-preserved : goal.loop-handle-preserved
loop-handle-preserved c =
    let fits : SFits w64 c.in-Some.handle.now = search rules in
    ap (λ es. united int_cmp es c.next.new.self) (c.in-Ok.ensures.ok ∙ ap (λ h. insert_entry int_cmp c.loop-handle.copy.entries h c.in-Some.lock.now) (to_z-of_z w64 _ fits))
    ∙ sym (ap (united int_cmp c.loop-handle.copy.entries) c.in-Some.ensures.steps) ∙ c.loop-handle.invariant

pub returns : goal.returns
returns c = sym (ap (united int_cmp c.loop-handle.copy.entries) c.in-None.ensures.steps.0) ∙ c.loop-handle.invariant ∙ united_anew int_cmp_total exact_signed c.args.side c.requires
