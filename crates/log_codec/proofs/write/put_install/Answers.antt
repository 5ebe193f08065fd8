use Rattle.std.proofs.Common.{◌∷◌, [], ◌++◌, SFits, w64}
use Rattle.std.proofs.lemmas.Int.{to_z-of_z}
use Rattle.log_codec.specs.Spelling as spelling
use Rattle.flash_put.proofs.Appending.{more}
use Rattle.log_codec.proofs.write.put_install.Goals as goal

pub returns : goal.returns
returns c =
    let fits : SFits w64 c.args.low = c.ranges.low in
    let epoch = spelling.epoch c.args.conf_ver c.args.version in
    let range = spelling.range c.args.low c.args.high in
    let ops = spelling.ops c.args.ops.now in
    let r = c.put_ops.result in
    let new = c.put_ops.new.into.items in
    let written = simp to_z-of_z at c.in_ok-put_range.ensures in
    let tail = more r c.put_epoch.new.into.items range ops c.put_range.new.into.items new written c.put_ops.ensures in
    let middle = more r c.put_u8.new.into.items epoch (range ++ ops) c.put_epoch.new.into.items new c.in_ok-put_epoch.ensures tail in
    more r c.args.into.now.items (7 ∷ []) (epoch ++ (range ++ ops)) c.put_u8.new.into.items new c.in_ok-put_u8.ensures middle
