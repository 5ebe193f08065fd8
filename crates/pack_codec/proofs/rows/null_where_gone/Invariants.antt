use Rattle.std.proofs.Common.{◌≡◌, ◌-◌}
use Rattle.pack_codec.specs.Rows.{null_from}
use Rattle.pack_codec.proofs.rows.null_where_gone.Given as goal

abbrev pub invariant-loop-i : goal.invariant-loop-i
invariant-loop-i l = null_from l.marks l.list l.i (l.count - l.i) ≡ null_from l.marks l.list 0 l.count
