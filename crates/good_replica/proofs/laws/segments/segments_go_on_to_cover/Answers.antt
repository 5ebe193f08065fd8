use Rattle.good_replica.proofs.Covering.{covers_changed, covers_split, covers_merged}
use Rattle.good_replica.proofs.laws.segments.segments_go_on_to_cover.Goals as goal

pub returns-clause-changed : goal.returns-clause-changed
returns-clause-changed c = covers_changed

pub returns-clause-split : goal.returns-clause-split
returns-clause-split c = covers_split

pub returns-clause-merged : goal.returns-clause-merged
returns-clause-merged c = covers_merged
