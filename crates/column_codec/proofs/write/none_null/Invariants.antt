use Rattle.std.proofs.Common.{◌≡◌, drop}
use Rattle.column_codec.proofs.WriteSteps.{none_null}
use Rattle.column_codec.proofs.write.none_null.Given as goal

abbrev pub invariant-loop-value : goal.invariant-loop-value
invariant-loop-value g l = none_null (drop l.value-index l.values) ≡ none_null l.values
