use Rattle.prefix_laws.proofs.Replica.{changed, merged, parted}
use Rattle.prefix_laws.proofs.laws.lists.segments_give_way_at_counts.Goals as goal

pub returns-clause-one : goal.returns-clause-one
returns-clause-one c = λ log S m safe from last. changed log S m safe from last

pub returns-clause-two : goal.returns-clause-two
returns-clause-two c = λ log S m safe from last s lower upper part. parted log S m safe from last s lower upper part.begins part.meets part.ends part.below part.above

pub returns-clause-joined : goal.returns-clause-joined
returns-clause-joined c = λ log S m safe from last. merged log S m safe from last
