use Rattle.good_replica.proofs.Installs.{into_stable}
use Rattle.good_replica.proofs.laws.files.stable_parts_take_files.Goals as goal

pub returns : goal.returns
returns c = λ log lawful h f m safe range stable new taken rest same good. into_stable log lawful h f m safe range stable new taken rest same good
