use Rattle.std.proofs.Common.{◌∷◌, []}
use Rattle.std.specs.Int.{w32, to_be_bytes}
use Rattle.flash_put.proofs.Appending.{more}
use Rattle.log_codec.proofs.write.put_merge.Goals as goal

pub returns : goal.returns
returns c = more c.put_u32.result c.args.into.now.items (c.args.kind ∷ []) (to_be_bytes w32 c.args.other) c.put_u8.new.into.items c.put_u32.new.into.items c.in_ok-put_u8.ensures c.put_u32.ensures
