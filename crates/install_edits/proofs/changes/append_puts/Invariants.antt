use Rattle.std.proofs.Common.{◌≡◌, ◌++◌, map, take}
use Rattle.segment_flush.specs.Flushing.{segment_edits}
use Rattle.segment_flush.specs.Names.{stored_of}
use Rattle.install_edits.proofs.changes.append_puts.Given as goal

abbrev pub invariant-loop-i : goal.invariant-loop-i
invariant-loop-i g l = l.edits.items ≡ l.fn.edits.items ++ segment_edits (map stored_of (take l.i l.news))
