use Rattle.prefix_laws.proofs.Replica.{changed_once, merged_once, parted_once}
use Rattle.prefix_laws.proofs.laws.lists.segments_give_way_at_one_count.Goals as goal

pub returns-clause-one : goal.returns-clause-one
returns-clause-one c = λ log A m safe k. changed_once log A m safe k

pub returns-clause-two : goal.returns-clause-two
returns-clause-two c = λ log A m safe k s lower upper part. parted_once log A m safe k s lower upper part.begins part.meets part.ends part.below part.above

pub returns-clause-joined : goal.returns-clause-joined
returns-clause-joined c = λ log A m safe k. merged_once log A m safe k
