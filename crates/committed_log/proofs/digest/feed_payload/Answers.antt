use Rattle.std.proofs.Common.{◌++◌}
use Rattle.std.specs.Int.{w32, w64, to_be_bytes}
use Rattle.log_codec.specs.Spelling as spelling
use Rattle.committed_log.proofs.Feeding.{both}
use Rattle.committed_log.proofs.digest.feed_payload.Goals as goal

pub returns : goal.returns
unfolding spelling.payload
returns c =
    let e = c.args.entry.now in
    let region = to_be_bytes w32 e.region in
    let index = to_be_bytes w64 e.index in
    let body = spelling.body e.body in
    let tail = both c.feed_u32.new.into c.feed_u64.new.into c.feed_body.new.into index body c.feed_u64.ensures c.feed_body.ensures in
    both c.args.into.now c.feed_u32.new.into c.feed_body.new.into region (index ++ body) c.feed_u32.ensures tail
