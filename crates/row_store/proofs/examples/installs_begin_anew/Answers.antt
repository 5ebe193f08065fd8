use Rattle.row_store.proofs.ManyRegions.{installs_begin_anew}
use Rattle.row_store.proofs.examples.installs_begin_anew.Goals as goal

pub returns : goal.returns
returns c = installs_begin_anew
