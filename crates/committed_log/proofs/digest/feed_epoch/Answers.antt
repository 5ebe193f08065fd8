use Rattle.std.specs.Int.{w64, to_be_bytes}
use Rattle.committed_log.proofs.Feeding.{both}
use Rattle.committed_log.proofs.digest.feed_epoch.Goals as goal

pub returns : goal.returns
returns c = both c.args.into.now c.feed_u64.new.into c.feed_u64-2.new.into (to_be_bytes w64 c.args.conf_ver) (to_be_bytes w64 c.args.version) c.feed_u64.ensures c.feed_u64-2.ensures
