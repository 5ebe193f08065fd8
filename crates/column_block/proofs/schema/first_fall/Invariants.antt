use Rattle.std.proofs.Common.{◌≡◌, ◌-◌, get_or, drop}
use Rattle.column_block.specs.Schemas.{ids}
use Rattle.column_block.specs.Rising.{first_fall, fall_after}
use Rattle.column_block.proofs.schema.first_fall.Given as goal

abbrev pub invariant-loop-i : goal.invariant-loop-i
invariant-loop-i l = first_fall (ids l.columns) ≡ fall_after (get_or (ids l.columns) (l.i - 1) 0) l.i (drop l.i (ids l.columns))
