use Rattle.std.proofs.Common.{◌≡◌, ◌-◌}
use Rattle.std.specs.Int.{w64, cast_unsigned}
use Rattle.flash_list.proofs.Each.{with_front}
use Rattle.column_codec.specs.Numbers.{int_at, AllFit}
use Rattle.column_codec.specs.Nulls.{nulls_from}
use Rattle.column_codec.specs.Lists.{values_at}
use Rattle.column_codec.proofs.values.ints_of.Given as goal

abbrev pub invariant-loop-i : goal.invariant-loop-i
invariant-loop-i l = record {
  read : with_front l.list.items (values_at (int_at l.end) (cast_unsigned w64) (nulls_from l.bitmap l.i (l.count - l.i)) l.before l.rest) ≡ values_at (int_at l.end) (cast_unsigned w64) (nulls_from l.bitmap 0 l.count) 0 l.bytes;
  fit : AllFit l.list.items;
}
