use Rattle.std.proofs.Common.{◌∷◌, []}
use Rattle.log_codec.specs.Spelling as spelling
use Rattle.flash_put.proofs.Appending.{more}
use Rattle.log_codec.proofs.write.put_write.Goals as goal

pub returns : goal.returns
returns c = more c.put_ops.result c.args.into.now.items (2 ∷ []) (spelling.ops c.args.ops.now) c.put_u8.new.into.items c.put_ops.new.into.items c.in_ok-put_u8.ensures c.put_ops.ensures
