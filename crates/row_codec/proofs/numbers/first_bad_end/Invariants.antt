use Rattle.std.proofs.Common.{◌≡◌, drop}
use Rattle.row_codec.specs.Numbers.{first_bad_end, bad_end_after}
use Rattle.row_codec.proofs.numbers.first_bad_end.Given as goal

abbrev pub invariant-loop-i : goal.invariant-loop-i
invariant-loop-i l = first_bad_end l.most l.all ≡ bad_end_after l.most l.before l.i (drop l.i l.all)
