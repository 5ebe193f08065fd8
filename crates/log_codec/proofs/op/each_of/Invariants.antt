use Rattle.std.proofs.Common.{◌≡◌, ◌-◌}
use Rattle.flash_list.specs.Steps.{each_at}
use Rattle.flash_list.proofs.Each.{with_front}
use Rattle.log_codec.specs.Frames.{op_at, each_op_at}
use Rattle.log_codec.proofs.op.each_of.Given as goal

abbrev pub invariant-loop : goal.invariant-loop
invariant-loop l = with_front l.ops (each_at (op_at l.end l.most) (λ _. tt {0}) (l.count - l.counter) (tt {0}) l.bytes) ≡ each_op_at l.end l.most l.count l.initial.bytes
