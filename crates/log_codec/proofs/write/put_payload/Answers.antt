use Rattle.std.proofs.Common.{◌++◌}
use Rattle.std.specs.Int.{w32, w64, to_be_bytes}
use Rattle.log_codec.specs.Spelling as spelling
use Rattle.flash_put.proofs.Appending.{more}
use Rattle.log_codec.proofs.write.put_payload.Goals as goal

pub returns : goal.returns
unfolding spelling.payload
returns c =
    let e = c.args.entry.now in
    let r = c.put_body.result in
    let new = c.put_body.new.into.items in
    let tail = more r c.put_u32.new.into.items (to_be_bytes w64 e.index) (spelling.body e.body) c.put_u64.new.into.items new c.in_ok-put_u64.ensures c.put_body.ensures in
    more r c.args.into.now.items (to_be_bytes w32 e.region) (to_be_bytes w64 e.index ++ spelling.body e.body) c.put_u32.new.into.items new c.in_ok-put_u32.ensures tail
