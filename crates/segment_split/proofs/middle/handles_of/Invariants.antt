use Rattle.std.proofs.Common.{◌≡◌, map, take}
use Rattle.column_block.specs.declared.cell.Version.{Version}
use Rattle.segment_split.proofs.middle.handles_of.Given as goal

abbrev pub invariant-loop-i : goal.invariant-loop-i
invariant-loop-i l = l.list.items ≡ take l.i (map (λ (v : Version). v.handle) l.block)
