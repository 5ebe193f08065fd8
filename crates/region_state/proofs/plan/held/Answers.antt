use Rattle.std.proofs.Common.{◌∙◌, ap, w64}
use Rattle.std.specs.BTreeMap.{get}
use Rattle.std.proofs.lemmas.Int.{to_z-of_z}
use Rattle.committed_log.specs.Store.{value_cmp}
use Rattle.region_state.proofs.plan.held.Goals as goal

pub returns : goal.returns
returns c = c.get.ensures.value ∙ ap (λ h. get value_cmp c.args.values.now (h, c.args.start)) (to_z-of_z w64 _ c.ranges.handle)
