use Rattle.kv_codec.proofs.Nine.{Begun}
use Rattle.kv_codec.proofs.records.number_in_nine.Given as goal

abbrev pub invariant-loop-rest : goal.invariant-loop-rest
invariant-loop-rest l = Begun l.low l.weight l.more l.bytes l.rest

abbrev pub decreases-loop-rest : goal.decreases-loop-rest
decreases-loop-rest l = l.more
