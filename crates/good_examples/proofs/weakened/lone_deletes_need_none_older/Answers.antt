use Rattle.good_examples.proofs.LeftOut.{lone_deletes_need_none_older}
use Rattle.good_examples.proofs.weakened.lone_deletes_need_none_older.Goals as goal

pub returns : goal.returns
returns c = lone_deletes_need_none_older
