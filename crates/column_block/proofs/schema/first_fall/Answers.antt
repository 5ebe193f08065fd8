use Rattle.column_block.proofs.Lists.{fall_at}
use Rattle.column_block.proofs.schema.first_fall.Goals as goal

pub returns-then-columns-i : goal.returns-then-columns-i
returns-then-columns-i c = fall_at c.args.columns.now c.loop-i.i _ c.loop-i.auto.i c.loop-i-test.true c.if-columns-i.true c.loop-i.invariant
