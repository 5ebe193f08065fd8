use Rattle.std.proofs.Common.{◌≡◌, take}
use Rattle.std.specs.List.{sum_by}
use Rattle.segment_list.specs.Slots.{file_rows, mem_rows}
use Rattle.segment_list.proofs.slot.rows_in.Given as goal

abbrev pub invariant-loop-i : goal.invariant-loop-i
invariant-loop-i l = (l.mem ≡ sum_by mem_rows (take l.i l.layer)) × (l.delta ≡ sum_by file_rows (take l.i l.layer))
