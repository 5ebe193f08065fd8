use Rattle.good_replica.proofs.Installs.{run_of_blocks}
use Rattle.good_replica.proofs.laws.files.blocks_become_one.Goals as goal

pub returns : goal.returns
returns c = λ log h f m safe range stable one before after blocks same good. run_of_blocks log h f m safe range stable one before after blocks same good
