use Rattle.opened_segments.proofs.Parts.{form_judged, kept_judged, kept_tiny}
use Rattle.opened_segments.proofs.delta.tiny_of.Goals as goal

pub returns-in-Ok-clause-exact : goal.returns-in-Ok-clause-exact
returns-in-Ok-clause-exact c = kept_judged c.args.file c.args.schema.now c.args.bytes.now c.in-Ok.whole c.in-Ok.ensures c.kept_to.result c.kept_to.ensures.memory

pub returns-in-Ok-clause-tiny : goal.returns-in-Ok-clause-tiny
returns-in-Ok-clause-tiny c = kept_tiny c.args.file c.args.schema.now c.args.bytes.now c.args.range c.in-Ok.whole c.in-Ok.ensures c.kept_to.result c.kept_to.ensures.ok

pub returns-in-Err-clause-exact : goal.returns-in-Err-clause-exact
returns-in-Err-clause-exact c = form_judged c.args.file c.args.schema.now c.args.bytes.now c.in-Err.error c.in-Err.ensures c.fault_of.result c.fault_of.ensures
