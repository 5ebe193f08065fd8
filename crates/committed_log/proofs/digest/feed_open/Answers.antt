use Rattle.std.proofs.Common.{◌∷◌, [], ◌++◌, SFits, w64}
use Rattle.std.proofs.lemmas.Int.{to_z-of_z}
use Rattle.log_codec.specs.Spelling as spelling
use Rattle.committed_log.proofs.Feeding.{both}
use Rattle.committed_log.proofs.digest.feed_open.Goals as goal

pub returns : goal.returns
returns c =
    let fits : SFits w64 c.args.low = c.ranges.low in
    let epoch = spelling.epoch c.args.conf_ver c.args.version in
    let range = spelling.range c.args.low c.args.high in
    let last = simp to_z-of_z at c.feed_range.ensures in
    let tail = both c.feed_u8.new.into c.feed_epoch.new.into c.feed_range.new.into epoch range c.feed_epoch.ensures last in
    both c.args.into.now c.feed_u8.new.into c.feed_range.new.into (1 ∷ []) (epoch ++ range) c.feed_u8.ensures tail
