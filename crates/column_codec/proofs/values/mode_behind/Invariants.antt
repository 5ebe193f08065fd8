use Rattle.std.proofs.Common.{◌≡◌, ◌∷◌, drop}
use Rattle.column_codec.specs.Lists.{given, mode_of}
use Rattle.column_codec.proofs.ValueSteps.{settled}
use Rattle.column_codec.proofs.values.mode_behind.Given as goal

abbrev pub invariant-loop-value : goal.invariant-loop-value
invariant-loop-value g l = settled g.T.PartialEq.eq l.x l.mode (given (drop l.value-index l.values)) ≡ mode_of g.T.PartialEq.eq (l.x ∷ given l.values)
