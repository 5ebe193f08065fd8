use Rattle.std.proofs.Common.{◌≡◌, take}
use Rattle.segment_list.specs.Flushes.{after_files, flushed_files}
use Rattle.segment_list.proofs.flush.flush_of.Given as goal

abbrev pub invariant-loop-i : goal.invariant-loop-i
invariant-loop-i l = (l.new ≡ flushed_files l.from (take l.i l.layer)) × (l.next ≡ after_files l.from (take l.i l.layer))
