use Rattle.std.proofs.Common.{◌∷◌, []}
use Rattle.std.specs.Int.{w32, to_be_bytes}
use Rattle.flash_put.proofs.Appending.{more}
use Rattle.log_codec.proofs.write.put_column.Goals as goal

pub returns : goal.returns
returns c = more c.put_u8.result c.args.into.now.items (to_be_bytes w32 c.args.column.now.id) (c.args.column.now.kind ∷ []) c.put_u32.new.into.items c.put_u8.new.into.items c.in_ok-put_u32.ensures c.put_u8.ensures
