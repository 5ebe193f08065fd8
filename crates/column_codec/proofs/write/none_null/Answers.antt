use Rattle.column_codec.proofs.WriteSteps.{none_null, null_found, all_given}
use Rattle.column_codec.proofs.write.none_null.Goals as goal

pub returns-in-None : goal.returns-in-None
returns-in-None g c = null_found c.args.values.now c.loop-value.value-index c.value-item.result (none_null c.args.values.now) c.loop-value-test.true c.value-item.is c.in-None.is c.loop-value.invariant

pub returns : goal.returns
returns g c = all_given c.args.values.now c.loop-value.value-index (none_null c.args.values.now) c.loop-value-test.false c.loop-value.invariant
