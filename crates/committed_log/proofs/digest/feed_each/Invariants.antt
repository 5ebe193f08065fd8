use Rattle.std.proofs.Common.{take}
use Rattle.std.specs.List.{flat_map}
use Rattle.log_codec.specs.Spelling as spelling
use Rattle.committed_log.specs.Digest.{Feeds}
use Rattle.committed_log.proofs.digest.feed_each.Given as goal

abbrev pub invariant-loop-op : goal.invariant-loop-op
invariant-loop-op l = Feeds l.initial.into (flat_map spelling.op (take l.op-index l.list)) l.into
