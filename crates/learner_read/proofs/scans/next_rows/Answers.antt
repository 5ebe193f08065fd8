use Rattle.std.proofs.Common.{◌≡◌, ◌≤◌, ◌∙◌, length, take, drop, ap, arith}
use Rattle.delta_layer.proofs.Packing.{fails_on}
use Rattle.learner_read.specs.Parts.{LeftIn}
use Rattle.learner_read.specs.Scans.{answers_of}
use Rattle.learner_read.proofs.Going.{is_empty, none_behind, none_here, none_part, step_fails, step_found, take_get, take_most, take_within}
use Rattle.learner_read.proofs.scans.next_rows.Goals as goal

pub returns-in-Err-clause-exact : goal.returns-in-Err-clause-exact
returns-in-Err-clause-exact g c = λ tells. step_fails g.R.Grip.Gripped.bytes c.args.snapshot.now (answers_of g.F.Fn c.args.sieve.now.test) c.args.sieve.now.bound (λ next part. LeftIn g.R.Grip.Gripped.bytes c.args.snapshot.now (answers_of g.F.Fn c.args.sieve.now.test) c.args.sieve.now.bound part (drop next (take c.args.to c.args.snapshot.now.pieces))) (take c.args.to c.args.snapshot.now.pieces) (LeftIn g.R.Grip.Gripped.bytes c.args.snapshot.now (answers_of g.F.Fn c.args.sieve.now.test) c.args.sieve.now.bound c.args.part (drop c.args.from (take c.args.to c.args.snapshot.now.pieces))) c.loop-k.left c.loop-k.k c.piece.result.now c.in-Err.error (take_get c.args.snapshot.now.pieces c.args.to c.loop-k.k c.piece.result.now (omega (arith, c.loop-k-test.true, c.lesser-end.ensures.first)) c.piece.ensures) (c.loop-k.invariant.exact tells) (c.in-Err.ensures.exact tells)

pub returns-in-Err-clause-cause : goal.returns-in-Err-clause-cause
returns-in-Err-clause-cause g c = fails_on _ _ _ c.in-Err.error c.loop-k.invariant.quiet c.in-Err.ensures.cause

pub returns-then-len-gt0-clause-exact : goal.returns-then-len-gt0-clause-exact
returns-then-len-gt0-clause-exact g c = λ tells. step_found g.R.Grip.Gripped.bytes c.args.snapshot.now (answers_of g.F.Fn c.args.sieve.now.test) c.args.sieve.now.bound (take c.args.to c.args.snapshot.now.pieces) (LeftIn g.R.Grip.Gripped.bytes c.args.snapshot.now (answers_of g.F.Fn c.args.sieve.now.test) c.args.sieve.now.bound c.args.part (drop c.args.from (take c.args.to c.args.snapshot.now.pieces))) c.loop-k.left c.loop-k.k c.piece.result.now c.in-Ok.found c.step_at.result (take_get c.args.snapshot.now.pieces c.args.to c.loop-k.k c.piece.result.now (omega (arith, c.loop-k-test.true, c.lesser-end.ensures.first)) c.piece.ensures) c.step_at.ensures.rows c.step_at.ensures.part c.step_at.ensures.next (c.loop-k.invariant.exact tells) (c.in-Ok.ensures.exact tells)

pub loop-k-preserved : goal.loop-k-preserved
loop-k-preserved g c = record {
  exact = λ tells rows damage l. none_here g.R.Grip.Gripped.bytes c.args.snapshot.now (answers_of g.F.Fn c.args.sieve.now.test) c.args.sieve.now.bound (take c.args.to c.args.snapshot.now.pieces) (LeftIn g.R.Grip.Gripped.bytes c.args.snapshot.now (answers_of g.F.Fn c.args.sieve.now.test) c.args.sieve.now.bound c.args.part (drop c.args.from (take c.args.to c.args.snapshot.now.pieces))) c.loop-k.left c.loop-k.k c.piece.result.now c.in-Ok.found.rows c.in-Ok.found (take_get c.args.snapshot.now.pieces c.args.to c.loop-k.k c.piece.result.now (omega (arith, c.loop-k-test.true, c.lesser-end.ensures.first)) c.piece.ensures) (ap (λ o. record { rows = c.in-Ok.found.rows; part = o }) (none_part c.args.snapshot.now c.piece.result.now.range c.in-Ok.found c.len-in-Ok.result c.in-Ok.ensures.rows c.len-in-Ok.ensures c.if-len-gt0.false)) (is_empty c.in-Ok.found.rows c.len-in-Ok.result c.len-in-Ok.ensures c.if-len-gt0.false) (c.loop-k.invariant.exact tells) (c.in-Ok.ensures.exact tells) rows damage l;
  quiet = c.in-Ok.ensures.cause.quiet ∙ c.loop-k.invariant.quiet;
}

pub returns-clause-exact : goal.returns-clause-exact
returns-clause-exact g c = λ tells.
    let le : length (take c.args.to c.args.snapshot.now.pieces) ≤ c.loop-k.k = (let l = c.lesser-end.ensures.most (length (take c.args.to c.args.snapshot.now.pieces)) (take_most c.args.to c.args.snapshot.now.pieces) (let x = take_within c.args.to c.args.snapshot.now.pieces in omega (arith, x, c.len.ensures)) in omega (arith, l, c.loop-k-test.false)) in
    none_behind g.R.Grip.Gripped.bytes c.args.snapshot.now (answers_of g.F.Fn c.args.sieve.now.test) c.args.sieve.now.bound (take c.args.to c.args.snapshot.now.pieces) (LeftIn g.R.Grip.Gripped.bytes c.args.snapshot.now (answers_of g.F.Fn c.args.sieve.now.test) c.args.sieve.now.bound c.args.part (drop c.args.from (take c.args.to c.args.snapshot.now.pieces))) c.loop-k.left c.loop-k.k le (c.loop-k.invariant.exact tells)
