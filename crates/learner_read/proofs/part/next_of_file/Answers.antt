use Rattle.std.proofs.Common.{◌<◌, ◌≤◌, ◌∙◌, length, arith}
use Rattle.delta_layer.proofs.Packing.{fails_on}
use Rattle.stable_file.specs.Opened.{packs_of}
use Rattle.learner_read.specs.Parts.{LeftOf}
use Rattle.learner_read.specs.Scans.{answers_of}
use Rattle.learner_read.proofs.Going.{file_fails, file_found, is_empty, last_found, left_out, no_packs, of_file, read_here, rows_here}
use Rattle.learner_read.proofs.Testing.{pack_at, read_begins}
use Rattle.learner_read.proofs.part.next_of_file.Goals as goal

pub loop-k-preserved-then-not-is_read : goal.loop-k-preserved-then-not-is_read
loop-k-preserved-then-not-is_read g c =
    let lt : c.loop-k.k < length (packs_of c.args.file.now) = omega (arith, c.loop-k-test.true, c.packs-k-end.ensures.number) in
    let at = pack_at (packs_of c.args.file.now) c.loop-k.k lt in
    record {
      exact = λ tells. left_out g.R.Grip.Gripped.bytes c.args.snapshot.now (answers_of g.F.Fn c.args.sieve.now.test) c.args.sieve.now.bound c.args.piece.now (packs_of c.args.file.now) (LeftOf g.R.Grip.Gripped.bytes c.args.snapshot.now (answers_of g.F.Fn c.args.sieve.now.test) c.args.sieve.now.bound c.args.piece.now c.args.part) c.loop-k.left c.loop-k.k at.0 c.is_read.result at.1 (c.is_read.ensures at.0 at.1) c.if-not-is_read.true (c.loop-k.invariant.exact tells);
      quiet = c.loop-k.invariant.quiet;
    }

pub loop-k-preserved : goal.loop-k-preserved
loop-k-preserved g c =
    let lt : c.loop-k.k < length (packs_of c.args.file.now) = omega (arith, c.loop-k-test.true, c.packs-k-end.ensures.number) in
    let at = pack_at (packs_of c.args.file.now) c.loop-k.k lt in
    record {
      exact = λ tells. read_here g.R.Grip.Gripped.bytes c.args.snapshot.now (answers_of g.F.Fn c.args.sieve.now.test) c.args.sieve.now.bound c.args.piece.now (packs_of c.args.file.now) (LeftOf g.R.Grip.Gripped.bytes c.args.snapshot.now (answers_of g.F.Fn c.args.sieve.now.test) c.args.sieve.now.bound c.args.piece.now c.args.part) c.loop-k.left c.in-Ok.below.part c.loop-k.k at.0 c.is_read.result c.in-Ok.below.rows c.packs-k-end.ensures.lawful at.1 (c.is_read.ensures at.0 at.1) c.if-not-is_read.false (is_empty c.in-Ok.below.rows c.len.result c.len.ensures c.if-len-gt0.false) (c.loop-k.invariant.exact tells) (c.in-Ok.ensures.exact tells at.0 at.1);
      quiet = c.in-Ok.ensures.cause.quiet ∙ c.loop-k.invariant.quiet;
    }

pub returns-in-Err-clause-cause : goal.returns-in-Err-clause-cause
returns-in-Err-clause-cause g c = fails_on _ _ _ c.in-Err.error c.loop-k.invariant.quiet c.in-Err.ensures.cause

pub returns-in-Err-clause-exact : goal.returns-in-Err-clause-exact
returns-in-Err-clause-exact g c = λ tells.
    let lt : c.loop-k.k < length (packs_of c.args.file.now) = omega (arith, c.loop-k-test.true, c.packs-k-end.ensures.number) in
    let at = pack_at (packs_of c.args.file.now) c.loop-k.k lt in
    file_fails g.R.Grip.Gripped.bytes c.args.snapshot.now (answers_of g.F.Fn c.args.sieve.now.test) c.args.sieve.now.bound c.args.piece.now (packs_of c.args.file.now) c.args.part c.loop-k.left c.loop-k.k at.0 c.is_read.result c.in-Err.error c.packs-k-end.ensures.lawful at.1 (c.is_read.ensures at.0 at.1) c.if-not-is_read.false (c.loop-k.invariant.exact tells) (c.in-Err.ensures.exact tells at.0 at.1)

pub returns-then-len-gt0-clause-exact : goal.returns-then-len-gt0-clause-exact
returns-then-len-gt0-clause-exact g c = λ tells.
    let lt : c.loop-k.k < length (packs_of c.args.file.now) = omega (arith, c.loop-k-test.true, c.packs-k-end.ensures.number) in
    let at = pack_at (packs_of c.args.file.now) c.loop-k.k lt in
    file_found g.R.Grip.Gripped.bytes c.args.snapshot.now (answers_of g.F.Fn c.args.sieve.now.test) c.args.sieve.now.bound c.args.piece.now c.args.file.now (LeftOf g.R.Grip.Gripped.bytes c.args.snapshot.now (answers_of g.F.Fn c.args.sieve.now.test) c.args.sieve.now.bound c.args.piece.now c.args.part) c.in-Ok.below.part c.loop-k.k c.in-Ok.below.rows c.found_at.result c.requires.file c.found_at.ensures.rows c.found_at.ensures.some c.found_at.ensures.part
    (rows_here g.R.Grip.Gripped.bytes c.args.snapshot.now (answers_of g.F.Fn c.args.sieve.now.test) c.args.sieve.now.bound c.args.piece.now (packs_of c.args.file.now) (LeftOf g.R.Grip.Gripped.bytes c.args.snapshot.now (answers_of g.F.Fn c.args.sieve.now.test) c.args.sieve.now.bound c.args.piece.now c.args.part) c.loop-k.left c.in-Ok.below.part c.loop-k.k at.0 c.is_read.result c.in-Ok.below.rows c.packs-k-end.ensures.lawful at.1 (c.is_read.ensures at.0 at.1) c.if-not-is_read.false (omega (arith, c.if-len-gt0.true, c.len.ensures)) (c.loop-k.invariant.exact tells) (c.in-Ok.ensures.exact tells at.0 at.1))
