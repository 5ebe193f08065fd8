use Rattle.std.proofs.Common.{◌≡◌, ◌-◌, ◌++◌}
use Rattle.column_codec.specs.Nulls.{nulls_from}
use Rattle.column_codec.specs.Lists.{repeated}
use Rattle.column_codec.proofs.values.repeated.Given as goal

abbrev pub invariant-loop-i : goal.invariant-loop-i
invariant-loop-i g l = l.list.items ++ repeated l.value (nulls_from l.bitmap l.i (l.count - l.i)) ≡ repeated l.value (nulls_from l.bitmap 0 l.count)
