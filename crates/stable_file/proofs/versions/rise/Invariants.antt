use Rattle.std.proofs.Common.{◌≡◌, ◌-◌, drop}
use Rattle.column_block.specs.Order.{rise}
use Rattle.stable_file.proofs.versions.rise.Given as goal

abbrev pub invariant-loop-i : goal.invariant-loop-i
invariant-loop-i l = rise (drop (l.i - 1) l.block) ≡ rise l.block
