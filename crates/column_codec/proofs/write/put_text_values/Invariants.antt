use Rattle.std.proofs.Common.{◌≡◌, drop}
use Rattle.column_codec.specs.Lists.{given}
use Rattle.column_codec.proofs.write.put_text_values.Given as goal

abbrev pub invariant-loop-i : goal.invariant-loop-i
invariant-loop-i l = record {
  kept : l.into.items ≡ l.initial.into.items;
  left : given (drop l.i l.texts) ≡ given l.texts;
}
