use Rattle.std.proofs.Common.{◌≡◌, true, take}
use Rattle.std.specs.List.{list_all}
use Rattle.region_state.specs.Folding.{commits_nothing}
use Rattle.region_state.proofs.plan.commit_nothing.Given as goal

abbrev pub invariant-loop-op : goal.invariant-loop-op
invariant-loop-op l = list_all commits_nothing (take l.op-index l.ops) ≡ true
