use Rattle.std.proofs.Common.{take}
use Rattle.std.specs.Prelude.{map}
use Rattle.std.specs.List.{flat_map}
use Rattle.log_codec.specs.Spelling as spelling
use Rattle.committed_log.specs.Digest.{Feeds, spec_of}
use Rattle.committed_log.proofs.digest.feed_columns.Given as goal

abbrev pub invariant-loop-column : goal.invariant-loop-column
invariant-loop-column l = Feeds l.initial.into (flat_map spelling.column (map spec_of (take l.column-index l.columns))) l.into
