use Rattle.segment_laws.proofs.Packs.{repacked_alone}
use Rattle.segment_laws.proofs.laws.files.repacked_segments_stay_good.Goals as goal

pub returns : goal.returns
returns c = λ log A m safe range stable. repacked_alone log A m safe range stable
