use Rattle.std.proofs.Common.{◌≡◌, rules}
use Rattle.learner_read.specs.Scans.{answers_of, rows_of}
use Rattle.learner_read.proofs.RowsOf.{are_of, are_rows}
use Rattle.learner_read.proofs.part.rows_over.Goals as goal

pub returns-in-Ok-passing-clause-rows : goal.returns-in-Ok-passing-clause-rows
returns-in-Ok-passing-clause-rows g c =
    let is : c.in_ok-rows.rows ≡ rows_of c.args.snapshot.now c.in-Ok.versions = search rules in
    are_rows c.args.snapshot.now (answers_of g.F.Fn c.args.sieve.now.test) c.in-Ok.versions c.in_ok-rows.rows c.in-Ok-passing.passed c.in-Ok.ensures.rise is c.in-Ok-passing.ensures

pub returns-in-Ok-passing-clause-of : goal.returns-in-Ok-passing-clause-of
returns-in-Ok-passing-clause-of g c =
    let is : c.in_ok-rows.rows ≡ rows_of c.args.snapshot.now c.in-Ok.versions = search rules in
    are_of c.args.snapshot.now (answers_of g.F.Fn c.args.sieve.now.test) c.args.range c.in-Ok.versions c.in_ok-rows.rows c.in-Ok-passing.passed c.in-Ok.ensures.within is c.in-Ok-passing.ensures
