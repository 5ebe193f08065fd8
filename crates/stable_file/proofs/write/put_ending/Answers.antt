use Rattle.std.proofs.Common.{length}
use Rattle.std.specs.Int.{w32, w64, to_be_bytes}
use Rattle.flash_put.proofs.Appending.{more}
use Rattle.stable_file.specs.Footer.{end_magic}
use Rattle.stable_file.specs.Building.{ending}
use Rattle.stable_file.proofs.write.put_ending.Goals as goal

pub returns : goal.returns
unfolding ending
returns c =
    let r = c.put_u32.result in
    let new = c.put_u32.new.into.items in
    let bytes = c.args.footer.now in
    let tail = more r c.put_bytes.new.into.items (to_be_bytes w64 (length bytes)) (to_be_bytes w32 end_magic) c.put_u64.new.into.items new c.in_ok-put_u64.ensures c.put_u32.ensures in
    more r c.args.into.now.items bytes _ c.put_bytes.new.into.items new c.in_ok-put_bytes.ensures tail
