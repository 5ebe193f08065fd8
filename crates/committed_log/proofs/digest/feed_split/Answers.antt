use Rattle.std.proofs.Common.{◌∷◌, [], ◌++◌, SFits}
use Rattle.std.specs.Int.{w32, w64, to_be_bytes}
use Rattle.std.proofs.lemmas.Int.{to_z-of_z}
use Rattle.log_codec.specs.Spelling as spelling
use Rattle.committed_log.proofs.Feeding.{both}
use Rattle.committed_log.proofs.digest.feed_split.Goals as goal

pub returns : goal.returns
returns c =
    let fits : SFits w64 c.args.at = c.ranges.at in
    let at = spelling.handle c.args.at in
    let child = to_be_bytes w32 c.args.child in
    let first = simp to_z-of_z at c.feed_handle.ensures in
    let tail = both c.feed_u8.new.into c.feed_handle.new.into c.feed_u32.new.into at child first c.feed_u32.ensures in
    both c.args.into.now c.feed_u8.new.into c.feed_u32.new.into (3 ∷ []) (at ++ child) c.feed_u8.ensures tail
