use Rattle.std.proofs.Common.{arith}
use Rattle.segment_laws.proofs.Flushed.{flushed_good, flushed_once}
use Rattle.segment_laws.proofs.laws.files.flushed_segments_stay_good.Goals as goal

pub returns-clause-counts : goal.returns-clause-counts
returns-clause-counts c = flushed_good

pub returns-clause-once : goal.returns-clause-once
returns-clause-once c = λ log A m safe k range stable old new flush. flushed_once log A m safe k k (omega arith) range stable old new flush
