use Rattle.good_replica.specs.Front.{front}
use Rattle.good_replica.proofs.Installs.{split_half}
use Rattle.good_replica.proofs.laws.segments.segments_split.Goals as goal

pub returns : goal.returns
returns c = λ log lawful A m safe range half stable new taken rest inside same good h held. split_half log lawful h (front log A h) m safe range half stable new taken rest held (λ ts. same h ts held) (good h (inside h held))
