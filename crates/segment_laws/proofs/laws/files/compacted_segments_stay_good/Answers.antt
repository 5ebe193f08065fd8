use Rattle.segment_laws.proofs.Packs.{run_compacts, run_compacts_once}
use Rattle.segment_laws.proofs.laws.files.compacted_segments_stay_good.Goals as goal

pub returns-clause-counts : goal.returns-clause-counts
returns-clause-counts c = λ log S m safe from last range stable. run_compacts log S m safe from last range stable

pub returns-clause-once : goal.returns-clause-once
returns-clause-once c = run_compacts_once
