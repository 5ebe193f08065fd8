use Rattle.pack_codec.specs.Rows.{versions_from}
use Rattle.pack_codec.proofs.RowSteps.{row_next}
use Rattle.pack_codec.proofs.rows.block_of.Goals as goal

pub loop-i-preserved : goal.loop-i-preserved
loop-i-preserved c = row_next c.args.heads.now c.args.lists.now c.loop-i.i c.args.count c.loop-i.block c.push.new.self c.in_ok-version.version (versions_from c.args.heads.now c.args.lists.now 0 c.args.count) c.loop-i-test.true c.in_ok-version.ensures c.in-Ok.ensures.ok c.loop-i.invariant
