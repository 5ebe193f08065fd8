use Rattle.std.proofs.Common.{◌≡◌, drop, take}
use Rattle.committed_log.specs.Replies.{refused_regions, AreCuts}
use Rattle.row_store.specs.Tests.{in_set}
use Rattle.row_reads.proofs.refusal.read_regions.Given as goal

abbrev pub invariant-loop-asked : goal.invariant-loop-asked
invariant-loop-asked l = record {
  rest : refused_regions l.log l.ts l.regions (in_set l.set) l.mark ≡ refused_regions l.log l.ts (drop l.asked-index l.regions) (in_set l.set) l.mark;
  cuts : AreCuts l.log (in_set l.set) (take l.asked-index l.regions) l.cuts;
}
