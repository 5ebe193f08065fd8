use Rattle.std.proofs.Common.{◌≡◌, ◌++◌, take}
use Rattle.segment_flush.specs.Flushing.{has_more, puts_of, segment_edits}
use Rattle.segment_flush.proofs.puts.append_segments.Given as goal

abbrev pub invariant-loop-i : goal.invariant-loop-i
invariant-loop-i g l = l.edits.items ≡ l.fn.edits.items ++ segment_edits (puts_of has_more l.from (take l.i l.list))
