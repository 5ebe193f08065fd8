use Rattle.log_codec.proofs.Ops.{head_steps}
use Rattle.log_codec.proofs.op.head_of.Goals as goal

pub returns-clause-exact : goal.returns-clause-exact
returns-clause-exact c = (head_steps c.args.end c.args.most c.args.bytes.now c.passes.result c.passes-2.result c.passes-3.result c.in_ok-put.put c.in_ok-put.rest.now c.in_ok-family.family c.in_ok-family.rest.now c.in_ok-key_len.key_len c.in_ok-key_len.field-0-1.now c.passes.ensures c.in_ok-put.ensures c.passes-2.ensures c.in_ok-family.ensures c.passes-3.ensures c.in_ok-key_len.ensures).1

pub returns-clause-within : goal.returns-clause-within
returns-clause-within c = (head_steps c.args.end c.args.most c.args.bytes.now c.passes.result c.passes-2.result c.passes-3.result c.in_ok-put.put c.in_ok-put.rest.now c.in_ok-family.family c.in_ok-family.rest.now c.in_ok-key_len.key_len c.in_ok-key_len.field-0-1.now c.passes.ensures c.in_ok-put.ensures c.passes-2.ensures c.in_ok-family.ensures c.passes-3.ensures c.in_ok-key_len.ensures).0
