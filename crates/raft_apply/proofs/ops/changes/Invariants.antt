use Rattle.std.proofs.Common.{◌≡◌}
use Rattle.std.specs.List.{filter_map}
use Rattle.committed_log.specs.Applied.{first_numbers}
use Rattle.raft_apply.specs.Entries.{change_at}
use Rattle.raft_apply.proofs.ops.changes.Given as goal

abbrev pub invariant-loop-k : goal.invariant-loop-k
invariant-loop-k l = l.found ≡ filter_map (change_at l.logs l.position l.ops) (first_numbers l.k)
