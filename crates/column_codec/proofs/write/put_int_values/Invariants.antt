use Rattle.std.proofs.Common.{◌≡◌, drop}
use Rattle.column_codec.specs.Lists.{given}
use Rattle.column_codec.proofs.write.put_int_values.Given as goal

abbrev pub invariant-loop-value : goal.invariant-loop-value
invariant-loop-value l = record {
  kept : l.into.items ≡ l.initial.into.items;
  left : given (drop l.value-index l.values) ≡ given l.values;
}
