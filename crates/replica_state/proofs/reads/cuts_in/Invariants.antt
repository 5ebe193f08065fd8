use Rattle.std.proofs.Common.{◌≡◌, Some, map, take}
use Rattle.replica_state.specs.Reads.{cut_in}
use Rattle.replica_state.proofs.reads.cuts_in.Given as goal

abbrev pub invariant-loop-asked : goal.invariant-loop-asked
invariant-loop-asked l = map (cut_in l.table.regions) (take l.asked-index l.regions) ≡ map Some l.cuts.items
