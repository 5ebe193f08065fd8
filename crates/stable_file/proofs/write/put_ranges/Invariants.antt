use Rattle.std.proofs.Common.{slice_range}
use Rattle.column_codec.proofs.WriteSteps.{Written}
use Rattle.stable_file.proofs.BuildSteps.{left}
use Rattle.stable_file.proofs.write.put_ranges.Given as goal

abbrev pub invariant-loop-k : goal.invariant-loop-k
invariant-loop-k l = Written l.initial.into.items l.into.items (left l.columns l.k (slice_range l.block l.from l.to)) (left l.columns 0 (slice_range l.block l.from l.to))
