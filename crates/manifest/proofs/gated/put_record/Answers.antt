use Rattle.std.proofs.Common.{◌∷◌, [], ◌++◌, length}
use Rattle.std.specs.Int.{w64, to_be_bytes}
use Rattle.flash_put.proofs.Appending.{more}
use Rattle.manifest.proofs.gated.put_record.Goals as goal

pub returns : goal.returns
returns c =
    let bytes = c.args.bytes.now in
    let r = c.put_u8.result in
    let new = c.put_u8.new.into.items in
    let tail = more r c.put_u64.new.into.items bytes (0 ∷ []) c.put_bytes.new.into.items new c.in_ok-put_bytes.ensures c.put_u8.ensures in
    more r c.args.into.now.items (to_be_bytes w64 (length bytes)) (bytes ++ 0 ∷ []) c.put_u64.new.into.items new c.in_ok-put_u64.ensures tail
