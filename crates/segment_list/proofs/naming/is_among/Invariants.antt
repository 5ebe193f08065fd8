use Rattle.std.proofs.Common.{◌≡◌, false, take}
use Rattle.std.specs.List.{list_any}
use Rattle.segment_list.specs.Lists.{is_tiny_file}
use Rattle.segment_list.proofs.naming.is_among.Given as goal

abbrev pub invariant-loop-i : goal.invariant-loop-i
invariant-loop-i l = list_any (is_tiny_file l.file) (take l.i l.layer) ≡ false
