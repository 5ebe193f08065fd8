use Rattle.std.proofs.Common.{◌∷◌, [], ◌++◌}
use Rattle.std.specs.Int.{w64, to_be_bytes}
use Rattle.flash_put.proofs.Appending.{more}
use Rattle.manifest_form.proofs.put.put_mark.Goals as goal

pub returns : goal.returns
returns c =
    let r = c.put_bytes.result in
    let new = c.put_bytes.new.into.items in
    let tail = more r c.put_u8.new.into.items (to_be_bytes w64 c.args.entries) c.args.chain.now c.put_u64.new.into.items new c.in_ok-put_u64.ensures c.put_bytes.ensures in
    more r c.args.into.now.items (4 ∷ []) (to_be_bytes w64 c.args.entries ++ c.args.chain.now) c.put_u8.new.into.items new c.in_ok-put_u8.ensures tail
