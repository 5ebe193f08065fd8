use Rattle.std.proofs.Common.{◌-◌, ◌≤◌, length, take, drop}
use Rattle.learner_read.specs.Parts.{AreAbove, AreBelow}
use Rattle.learner_read.proofs.part.first_from.Given as goal

abbrev pub invariant-loop-low : goal.invariant-loop-low
invariant-loop-low l = record {
  order : l.low ≤ l.high;
  within : l.high ≤ length l.block;
  below : AreBelow l.handle (take l.low l.block);
  above : AreAbove l.handle (drop l.high l.block);
}

abbrev pub decreases-loop-low : goal.decreases-loop-low
decreases-loop-low l = l.high - l.low
