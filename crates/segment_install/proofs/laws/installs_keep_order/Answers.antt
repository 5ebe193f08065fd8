use Rattle.segment_install.proofs.Whole.{install_in_order}
use Rattle.segment_install.proofs.laws.installs_keep_order.Goals as goal

pub returns : goal.returns
returns g c = λ committed last first files built slots install may cover plan order. install_in_order committed last first files built slots install may cover plan order
