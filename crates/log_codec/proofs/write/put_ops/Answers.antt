use Rattle.std.proofs.Common.{length}
use Rattle.std.specs.Int.{w32, to_be_bytes}
use Rattle.std.specs.List.{flat_map}
use Rattle.log_codec.specs.Spelling as spelling
use Rattle.flash_put.proofs.Appending.{more}
use Rattle.log_codec.proofs.write.put_ops.Goals as goal

pub returns : goal.returns
returns c =
    let ops = c.args.list.now in
    more c.put_each.result c.args.into.now.items (to_be_bytes w32 (length ops)) (flat_map spelling.op ops) c.put_u32.new.into.items c.put_each.new.into.items c.in_ok-put_u32.ensures c.put_each.ensures
