use Rattle.std.proofs.Common.{◌≡◌, ◌-◌}
use Rattle.std.specs.List.{list_all}
use Rattle.column_codec.specs.Nulls.{nulls_from}
use Rattle.column_codec.proofs.nulls.all_null.Given as goal

abbrev pub invariant-loop-i : goal.invariant-loop-i
invariant-loop-i l = list_all (λ null. null) (nulls_from l.bitmap l.i (l.count - l.i)) ≡ list_all (λ null. null) (nulls_from l.bitmap 0 l.count)
