use Rattle.std.proofs.Common.{length, take, ◌-◌, ◌≤◌, ◌≡◌}
use Rattle.std.specs.Io.KnownBytes.{Appends}
use Rattle.flash_io.proofs.write.write_all.Given as goal

abbrev pub invariant-loop-at : goal.invariant-loop-at
invariant-loop-at g l =
    let contents = g.W.Sink.contents in
    let faults = g.W.Sink.fault_count in
    record {
      within : l.at ≤ length l.bytes;
      quiet : faults l.sink ≡ faults l.fn.sink;
      taken : Appends (contents l.fn.sink) (contents l.sink) (take l.at l.bytes);
    }

abbrev pub decreases-loop-at : goal.decreases-loop-at
decreases-loop-at g l = length l.bytes - l.at
