use Rattle.std.proofs.Common.{◌≡◌, false, take}
use Rattle.std.specs.List.{list_any}
use Rattle.segment_list.specs.Lists.{is_file_of}
use Rattle.segment_list.proofs.naming.is_file_in.Given as goal

abbrev pub invariant-loop-i : goal.invariant-loop-i
invariant-loop-i g l = list_any (is_file_of l.file) (take l.i l.slots) ≡ false
