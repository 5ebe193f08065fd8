use Rattle.std.proofs.Common.{◌≡◌, [], take, map}
use Rattle.committed_log.specs.Store.{Store}
use Rattle.region_state.specs.Folding.{version_of, after_all}
use Rattle.region_state.specs.Standing.{Stands}
use Rattle.region_state.proofs.plan.each_version.Given as goal

abbrev pub invariant-loop-op : goal.invariant-loop-op
invariant-loop-op l = record {
  versions : (s : Store) → s.values ≡ l.values.entries → s.commits ≡ [] → l.block ≡ map (version_of l.schema) (after_all s (take l.op-index l.ops)).commits;
  stands : (s : Store) → s.values ≡ l.values.entries → Stands l.values.entries l.changes (after_all s (take l.op-index l.ops));
}
