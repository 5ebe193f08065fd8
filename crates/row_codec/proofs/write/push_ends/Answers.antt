use Rattle.row_codec.specs.Numbers.{bytes_each}
use Rattle.row_codec.proofs.Writing.{ends_step}
use Rattle.row_codec.proofs.write.push_ends.Goals as goal

pub loop-field-preserved : goal.loop-field-preserved
loop-field-preserved c =
    let step = ends_step c.args.fields.now c.loop-field.field-index c.field-item.result (bytes_each c.args.width) c.loop-field.end c.len.result c.args.into.now.items c.loop-field.into.items c.push_number.new.into.items c.loop-field-test.true c.field-item.is c.loop-field.invariant.end_is c.len.ensures c.loop-field.invariant.written c.in_ok-push_number.ensures in
    record { end_is = step.0; written = step.1 }
