use Rattle.std.proofs.Common.{◌≡◌, ◌-◌, get_or, drop}
use Rattle.column_block.specs.Rising.{first_fall, fall_after}
use Rattle.row_codec.proofs.numbers.first_fall.Given as goal

abbrev pub invariant-loop-i : goal.invariant-loop-i
invariant-loop-i l = first_fall l.all ≡ fall_after (get_or l.all (l.i - 1) 0) l.i (drop l.i l.all)
