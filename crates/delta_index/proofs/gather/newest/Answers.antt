use Rattle.std.proofs.Common.{arith}
use Rattle.delta_index.proofs.Files.{one_more}
use Rattle.delta_index.proofs.gather.newest.Goals as goal

pub loop-row-preserved : goal.loop-row-preserved
loop-row-preserved c = one_more c.args.number c.args.block.now c.loop-row.row c.at-version.result.now c.loop-row.found.entries c.place.new.found.entries (omega arith) c.at-version.ensures c.loop-row.invariant c.in_ok-place.ensures
