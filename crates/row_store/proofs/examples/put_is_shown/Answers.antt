use Rattle.row_store.proofs.OneRegion.{put_is_shown}
use Rattle.row_store.proofs.examples.put_is_shown.Goals as goal

pub returns : goal.returns
returns c = put_is_shown
