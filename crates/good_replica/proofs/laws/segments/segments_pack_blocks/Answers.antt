use Rattle.good_replica.specs.Front.{front}
use Rattle.good_replica.proofs.Installs.{run_of_blocks}
use Rattle.good_replica.proofs.laws.segments.segments_pack_blocks.Goals as goal

pub returns : goal.returns
returns c = λ log A m safe range stable one before after blocks same good h held. run_of_blocks log h (front log A h) m safe range stable one before after blocks (λ ts. same h ts held) (good h held)
