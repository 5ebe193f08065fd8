use Rattle.std.proofs.Common.{◌≡◌, ◌-◌}
use Rattle.flash_list.proofs.Each.{with_front}
use Rattle.column_codec.specs.Numbers.{text_at}
use Rattle.column_codec.specs.Nulls.{nulls_from}
use Rattle.column_codec.specs.Lists.{values_at}
use Rattle.column_codec.proofs.texts.texts_of.Given as goal

abbrev pub invariant-loop-i : goal.invariant-loop-i
invariant-loop-i l = with_front l.list (values_at (text_at l.end) (λ _. tt {0}) (nulls_from l.bitmap l.i (l.count - l.i)) (tt {0}) l.rest) ≡ values_at (text_at l.end) (λ _. tt {0}) (nulls_from l.bitmap 0 l.count) (tt {0}) l.bytes
