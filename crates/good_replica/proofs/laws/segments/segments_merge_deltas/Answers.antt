use Rattle.good_replica.specs.Front.{front}
use Rattle.good_replica.proofs.Installs.{delta_merged}
use Rattle.good_replica.proofs.laws.segments.segments_merge_deltas.Goals as goal

pub returns : goal.returns
returns c = λ log lawful A m safe at range stable new taken rest low is good h held. delta_merged log lawful h (front log A h) m safe range stable new taken rest at low (is h held) (good h held)
