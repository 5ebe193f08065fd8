use Rattle.good_replica.proofs.Installs.{delta_merged}
use Rattle.good_replica.proofs.laws.files.delta_merges_collect.Goals as goal

pub returns : goal.returns
returns c = λ log lawful h f m safe at range stable new taken rest low is good. delta_merged log lawful h f m safe range stable new taken rest at low is good
