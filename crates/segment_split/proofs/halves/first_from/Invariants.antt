use Rattle.std.proofs.Common.{◌≡◌, true, take, int_lt}
use Rattle.std.specs.List.{AllByRecursion}
use Rattle.column_block.specs.declared.cell.Version.{Version}
use Rattle.segment_split.proofs.halves.first_from.Given as goal

abbrev pub invariant-loop-i : goal.invariant-loop-i
invariant-loop-i l = AllByRecursion (λ (v : Version). int_lt v.handle l.at ≡ true) (take l.i l.block)
