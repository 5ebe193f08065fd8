use Rattle.row_store.proofs.OneRegion.{locks_are_in_the_way}
use Rattle.row_store.proofs.examples.locks_are_in_the_way.Goals as goal

pub returns : goal.returns
returns c = locks_are_in_the_way
