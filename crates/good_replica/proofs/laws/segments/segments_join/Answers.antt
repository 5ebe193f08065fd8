use Rattle.good_replica.proofs.Joining.{joined}
use Rattle.good_replica.proofs.laws.segments.segments_join.Goals as goal

pub returns : goal.returns
returns c = λ log lawful A m safe left right both left_stable right_stable new left_taken left_rest right_taken right_rest one_of same_left same_right good_left good_right. joined log lawful A m safe left right both left_stable right_stable new left_taken left_rest right_taken right_rest one_of same_left same_right good_left good_right
