use Rattle.std.proofs.Common.{◌-◌, ◌≤◌, ◌<◌, ◌≡◌, length}
use Rattle.flash_io.proofs.Reading.{ReadSoFar}
use Rattle.flash_io.proofs.read.fill.Given as goal

abbrev pub invariant-loop-count : goal.invariant-loop-count
invariant-loop-count g l =
    let left = g.S.Source.left in
    let faults = g.S.Source.fault_count in
    record {
      room : 0 < length l.piece.items;
      within : l.taken ≤ l.limit;
      quiet : faults l.source ≡ faults l.fn.source;
      read : ReadSoFar l.taken (left l.fn.source) (left l.source) l.fn.into.items l.into.items;
    }

abbrev pub decreases-loop-count : goal.decreases-loop-count
decreases-loop-count g l = l.limit - l.taken
