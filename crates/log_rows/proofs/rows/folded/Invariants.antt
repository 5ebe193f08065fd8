use Rattle.std.proofs.Common.{◌≡◌, ◌≤◌, ◌-◌, length}
use Rattle.committed_log.specs.Log.{at}
use Rattle.log_rows.specs.Folds.{Holds}
use Rattle.log_rows.proofs.rows.folded.Given as goal

abbrev pub invariant-loop-position : goal.invariant-loop-position
invariant-loop-position l = record {
  within : l.position ≤ length l.logs.entries;
  ts : l.fold.ts ≡ l.ts;
  regions : l.regions.entries ≡ (at l.logs l.position).regions;
  holds : Holds (at l.logs l.position) l.ts l.fold.values l.fold.handles;
}

abbrev pub decreases-loop-position : goal.decreases-loop-position
decreases-loop-position l = length l.logs.entries - l.position
