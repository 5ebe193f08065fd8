use Rattle.std.proofs.Common.{◌≡◌, ◌++◌, ◌-◌}
use Rattle.pack_codec.specs.Rows.{versions_from}
use Rattle.pack_codec.proofs.rows.block_of.Given as goal

abbrev pub invariant-loop-i : goal.invariant-loop-i
invariant-loop-i l = l.block ++ versions_from l.heads l.lists l.i (l.count - l.i) ≡ versions_from l.heads l.lists 0 l.count
