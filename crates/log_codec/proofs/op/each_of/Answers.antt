use Rattle.std.proofs.lemmas.Result.{err_from_is_err_and}
use Rattle.flash_list.proofs.Each.{goes_on, is_done, starts}
use Rattle.log_codec.specs.Frames.{op_at, each_op_at}
use Rattle.log_codec.proofs.Loop.{fails_here}
use Rattle.log_codec.proofs.op.each_of.Goals as goal

pub loop-init : goal.loop-init
unfolding each_op_at
loop-init c = rw c.in-Ok.ensures (starts (op_at c.args.end c.args.most) (λ _. tt {0}) c.args.count (tt {0}) c.args.bytes.now)

pub returns-in_err-op : goal.returns-in_err-op
returns-in_err-op c =
    let p = err_from_is_err_and c.from_residual.result c.from_residual.ensures.1 in
    rw (p.1, p.2) (fails_here c.in_err-op.field-0.0 (op_at c.args.end c.args.most) (λ _. tt {0}) c.loop.ops c.args.count c.loop.counter (tt {0}) c.loop.bytes (each_op_at c.args.end c.args.most c.args.count c.args.bytes.now) c.loop-test.true c.in_err-op.ensures c.loop.invariant)

pub loop-preserved : goal.loop-preserved
loop-preserved c =
    rw c.in-Ok-push.ensures.ok (goes_on (op_at c.args.end c.args.most) (λ _. tt {0}) c.loop.ops c.args.count c.loop.counter (tt {0}) c.loop.bytes c.in_ok-op.op c.op_of.new.bytes (each_op_at c.args.end c.args.most c.args.count c.args.bytes.now) c.loop-test.true c.in_ok-op.ensures c.loop.invariant)

pub returns : goal.returns
returns c = is_done (op_at c.args.end c.args.most) (λ _. tt {0}) c.loop.ops c.args.count c.loop.counter (tt {0}) c.loop.bytes (each_op_at c.args.end c.args.most c.args.count c.args.bytes.now) c.loop-test.false c.loop.invariant
