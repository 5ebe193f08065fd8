use Rattle.good_replica.proofs.Installs.{split_half}
use Rattle.good_replica.proofs.laws.files.split_halves_part.Goals as goal

pub returns : goal.returns
returns c = λ log lawful h f m safe range half stable new taken rest within same good. split_half log lawful h f m safe range half stable new taken rest within same good
