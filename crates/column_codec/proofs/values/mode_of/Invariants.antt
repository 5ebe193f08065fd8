use Rattle.std.proofs.Common.{◌≡◌, drop}
use Rattle.column_codec.specs.Lists.{given, mode_of}
use Rattle.column_codec.proofs.values.mode_of.Given as goal

abbrev pub invariant-loop-i : goal.invariant-loop-i
invariant-loop-i g l = mode_of g.T.PartialEq.eq (given (drop l.i l.values)) ≡ mode_of g.T.PartialEq.eq (given l.values)
