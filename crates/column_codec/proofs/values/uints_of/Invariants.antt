use Rattle.std.proofs.Common.{◌≡◌, ◌-◌}
use Rattle.flash_list.proofs.Each.{with_front}
use Rattle.column_codec.specs.Numbers.{uint_at}
use Rattle.column_codec.specs.Nulls.{nulls_from}
use Rattle.column_codec.specs.Lists.{values_at}
use Rattle.column_codec.proofs.values.uints_of.Given as goal

abbrev pub invariant-loop-i : goal.invariant-loop-i
invariant-loop-i l = with_front l.list.items (values_at (uint_at l.end) (λ n. n) (nulls_from l.bitmap l.i (l.count - l.i)) l.before l.rest) ≡ values_at (uint_at l.end) (λ n. n) (nulls_from l.bitmap 0 l.count) 0 l.bytes
