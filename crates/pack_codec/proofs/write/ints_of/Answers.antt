use Rattle.std.proofs.Common.{arith}
use Rattle.pack_codec.specs.Spelling as spelling
use Rattle.pack_codec.proofs.FieldSteps.{list_next}
use Rattle.pack_codec.proofs.write.ints_of.Goals as goal

pub loop-i-preserved : goal.loop-i-preserved
loop-i-preserved c = list_next (spelling.int_of c.args.field) c.args.block.now c.args.from c.loop-i.i c.at.result.now c.int_of.result c.loop-i.list c.push.new.self (omega arith) (omega arith) c.at.ensures c.int_of.ensures c.in-Ok.ensures.ok c.loop-i.invariant
