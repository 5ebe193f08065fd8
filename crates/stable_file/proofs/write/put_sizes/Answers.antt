use Rattle.std.proofs.Common.{◌++◌}
use Rattle.std.specs.Int.{w32, w64, to_be_bytes}
use Rattle.flash_put.proofs.Appending.{more}
use Rattle.stable_file.specs.Building.{sizes}
use Rattle.stable_file.proofs.write.put_sizes.Goals as goal

pub returns : goal.returns
unfolding sizes
returns c =
    let r = c.put_u32.result in
    let new = c.put_u32.new.into.items in
    let place = to_be_bytes w64 c.args.place in
    let len = to_be_bytes w64 c.args.len in
    let count = to_be_bytes w32 c.args.count in
    let tail = more r c.put_u64.new.into.items len count c.put_u64-2.new.into.items new c.in_ok-put_u64-2.ensures c.put_u32.ensures in
    more r c.args.into.now.items place (len ++ count) c.put_u64.new.into.items new c.in_ok-put_u64.ensures tail
