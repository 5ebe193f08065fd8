use Rattle.std.proofs.Common.{◌≡◌, ◌≤◌, ◌-◌, suc, length}
use Rattle.log_file.specs.Logs.{IsReadTo}
use Rattle.log_file.proofs.log.read_frames.Given as goal

abbrev pub invariant-loop-at : goal.invariant-loop-at
invariant-loop-at l = record {
  within : l.at ≤ length l.bytes;
  so_far : IsReadTo l.bytes l.logs l.at;
  counted : l.number ≡ suc (length l.logs.entries);
  few : l.number ≤ suc l.at;
}

abbrev pub decreases-loop-at : goal.decreases-loop-at
decreases-loop-at l = length l.bytes - l.at
