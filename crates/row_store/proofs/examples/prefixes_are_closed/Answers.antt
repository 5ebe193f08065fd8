use Rattle.row_store.proofs.Sets.{prefixes_are_closed}
use Rattle.row_store.proofs.examples.prefixes_are_closed.Goals as goal

pub returns : goal.returns
returns c = prefixes_are_closed
