use Rattle.std.proofs.Common.{◌≡◌, drop, nat_eq}
use Rattle.std.specs.Cmp.Lexicographic.{pointwise}
use Rattle.column_codec.specs.Lists.{given, mode_of}
use Rattle.column_codec.proofs.texts.text_mode.Given as goal

abbrev pub invariant-loop-i : goal.invariant-loop-i
invariant-loop-i l = mode_of (pointwise nat_eq) (given (drop l.i l.texts)) ≡ mode_of (pointwise nat_eq) (given l.texts)
