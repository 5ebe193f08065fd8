use Rattle.std.proofs.Common.{◌≡◌, false, take}
use Rattle.std.specs.List.{list_any}
use Rattle.delta_layer.specs.Files.{is_mem}
use Rattle.segment_list.proofs.slot.has_mem.Given as goal

abbrev pub invariant-loop-i : goal.invariant-loop-i
invariant-loop-i l = list_any is_mem (take l.i l.layer) ≡ false
