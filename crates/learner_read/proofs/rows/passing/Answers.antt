use Rattle.std.proofs.Common.{◌∙◌, ap, sym, map, slice_get, [], arith}
use Rattle.learner_read.specs.Scans.{answers_of}
use Rattle.learner_read.specs.Scans.Pass.{End}
use Rattle.learner_read.proofs.Places.{are_within}
use Rattle.learner_read.proofs.Testing.{picked_all, picked_more}
use Rattle.learner_read.proofs.rows.passing.Goals as goal

pub loop-i-init : goal.loop-i-init
loop-i-init g c = record { passed = []; pass = End; at = ap (map (slice_get c.args.rows.now)) c.new-places.ensures.items }

pub loop-i-preserved : goal.loop-i-preserved
loop-i-preserved g c = picked_more (answers_of g.F.Fn c.args.sieve.now.test) c.args.rows.now c.loop-i.i c.loop-i.places.items c.add_if.new.places.items c.at-row.result.now c.passes.result c.at-row.ensures c.passes.ensures c.in_ok-add_if.ensures c.loop-i.invariant

pub permuted-requires : goal.permuted-requires
permuted-requires g c = λ i less.
    let e = are_within c.args.rows.now c.as_slice.result.now c.loop-i.invariant.passed (ap (map (slice_get c.args.rows.now)) c.as_slice.ensures.value ∙ c.loop-i.invariant.at) in
    e i less

pub returns : goal.returns
returns g c = picked_all (answers_of g.F.Fn c.args.sieve.now.test) c.args.rows.now c.loop-i.i c.loop-i.places.items c.in_ok-passed.passed (omega arith) c.loop-i.invariant (c.in_ok-passed.ensures ∙ ap (map (slice_get c.args.rows.now)) c.as_slice.ensures.value)
