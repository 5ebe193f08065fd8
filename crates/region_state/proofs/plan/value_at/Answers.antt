use Rattle.std.proofs.Common.{ap, w64, ◌∙◌}
use Rattle.std.specs.BTreeMap.{get}
use Rattle.std.proofs.lemmas.Int.{to_z-of_z}
use Rattle.committed_log.specs.Store.{value_cmp}
use Rattle.region_state.specs.Standing.{seen}
use Rattle.region_state.proofs.plan.value_at.Goals as goal

pub returns-in-Some-Some : goal.returns-in-Some-Some
returns-in-Some-Some c = ap (λ o. seen o (get value_cmp c.args.values.now (c.args.handle, c.args.start))) (simp (to_z-of_z w64 _ c.ranges.handle) at (rw c.in-Some-Some.field-0-is at c.in-Some-Some.ensures))

pub returns-in-Some-None : goal.returns-in-Some-None
returns-in-Some-None c = ap (λ o. seen o (get value_cmp c.args.values.now (c.args.handle, c.args.start))) (simp (to_z-of_z w64 _ c.ranges.handle) at (rw c.in-Some-None.field-0-is at c.in-Some-None.ensures))

pub returns-in-None : goal.returns-in-None
returns-in-None c = (simp (to_z-of_z w64 _ c.ranges.handle) at c.held.ensures) ∙ ap (λ o. seen o (get value_cmp c.args.values.now (c.args.handle, c.args.start))) (simp (to_z-of_z w64 _ c.ranges.handle) at c.in-None.ensures)
