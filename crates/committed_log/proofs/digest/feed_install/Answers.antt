use Rattle.std.proofs.Common.{◌∷◌, [], ◌++◌, SFits, w64}
use Rattle.std.proofs.lemmas.Int.{to_z-of_z}
use Rattle.log_codec.specs.Spelling as spelling
use Rattle.committed_log.proofs.Feeding.{both}
use Rattle.committed_log.proofs.digest.feed_install.Goals as goal

pub returns : goal.returns
returns c =
    let fits : SFits w64 c.args.low = c.ranges.low in
    let epoch = spelling.epoch c.args.conf_ver c.args.version in
    let range = spelling.range c.args.low c.args.high in
    let ops = spelling.ops c.args.ops.now in
    let between = simp to_z-of_z at c.feed_range.ensures in
    let tail = both c.feed_epoch.new.into c.feed_range.new.into c.feed_ops.new.into range ops between c.feed_ops.ensures in
    let middle = both c.feed_u8.new.into c.feed_epoch.new.into c.feed_ops.new.into epoch (range ++ ops) c.feed_epoch.ensures tail in
    both c.args.into.now c.feed_u8.new.into c.feed_ops.new.into (7 ∷ []) (epoch ++ (range ++ ops)) c.feed_u8.ensures middle
