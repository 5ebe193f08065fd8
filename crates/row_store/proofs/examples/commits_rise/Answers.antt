use Rattle.row_store.proofs.OneRegion.{commits_rise}
use Rattle.row_store.proofs.examples.commits_rise.Goals as goal

pub returns : goal.returns
returns c = commits_rise
