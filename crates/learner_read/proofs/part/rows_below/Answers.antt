use Rattle.std.proofs.Common.{◌≡◌, ◌∙◌, ◌<ℤ◌, true, false, Some, take, drop, sym, ap, subst, refl, rules, SFits, w64}
use Rattle.std.specs.Prelude.{int_le}
use Rattle.std.proofs.lemmas.Int.{to_z-of_z}
use Rattle.column_block.specs.Order.{rises}
use Rattle.delta_layer.specs.Files.{files_of}
use Rattle.flash_types.specs.Ranges.{part_below}
use Rattle.learner_read.specs.Parts.{AreAbove, AreBelow, HasRows}
use Rattle.learner_read.specs.Scans.{answers_of}
use Rattle.learner_read.proofs.Turns.{in_two, is_cut, none_cut, of_below, puts_none, puts_rows, rises_first, rises_second}
use Rattle.learner_read.proofs.part.rows_below.Goals as goal

pub returns-then-bound-rest-clause-exact : goal.returns-then-bound-rest-clause-exact
returns-then-bound-rest-clause-exact g c = puts_none g.G.Gripped.bytes c.args.snapshot.now (answers_of g.F.Fn c.args.sieve.now.test) c.args.piece.now c.args.part c.args.bound c.new.result c.new.ensures

pub returns-then-bound-rest-clause-cut : goal.returns-then-bound-rest-clause-cut
returns-then-bound-rest-clause-cut g c =
    let fits : SFits w64 c.args.bound = c.ranges.bound in
    let low_fits : SFits w64 c.rest_of-rest.result.low = search rules in
    none_cut g.G.Gripped.bytes c.args.snapshot.now (answers_of g.F.Fn c.args.sieve.now.test) c.args.piece.now c.args.part c.rest_of-rest.result c.args.bound c.rest_of-rest.ensures ((λ i. int_le (sym (to_z-of_z w64 c.args.bound fits) i) (sym (to_z-of_z w64 c.rest_of-rest.result.low low_fits) i)) ∙ c.if-bound-rest.true)

pub returns-clause-exact : goal.returns-clause-exact
returns-clause-exact g c =
    let fits : SFits w64 c.args.bound = c.ranges.bound in
    let low_fits : SFits w64 c.rest_of-rest.result.low = search rules in
    let up : rises c.args.part.before ≡ true = search rules in
    let past : int_le c.args.bound c.rest_of-rest.result.low ≡ false = (λ i. int_le (sym (to_z-of_z w64 c.args.bound fits) i) (sym (to_z-of_z w64 c.rest_of-rest.result.low low_fits) i)) ∙ c.if-bound-rest.false in
    let two = in_two c.args.part.before c.in_ok-here.here c.in_ok-before.before c.first_from-place.result c.len.result c.first_from-place.ensures.within c.len.ensures c.in_ok-here.ensures c.in_ok-before.ensures in
    let below = subst (λ b. AreBelow b (take c.first_from-place.result c.args.part.before)) (to_z-of_z w64 c.args.bound fits) c.first_from-place.ensures.below in
    let above = subst (λ b. AreAbove b (drop c.first_from-place.result c.args.part.before)) (to_z-of_z w64 c.args.bound fits) c.first_from-place.ensures.above in
    let has = subst (λ r. HasRows c.args.snapshot.now (answers_of g.F.Fn c.args.sieve.now.test) r c.in_ok-here.here (files_of c.args.piece.now.delta) c.in_ok-rows.rows) (c.below.ensures ∙ ap (part_below c.rest_of-rest.result) (to_z-of_z w64 c.args.bound fits)) c.in_ok-rows.ensures.exact in
    puts_rows g.G.Gripped.bytes c.args.snapshot.now (answers_of g.F.Fn c.args.sieve.now.test) c.args.piece.now c.args.part _ c.in_ok-before.before c.rest_of-rest.result c.args.bound c.in_ok-here.here c.in_ok-before.before c.in_ok-rows.rows c.first_from-place.result up c.rest_of-rest.ensures past c.requires.within two below above (ap Some (to_z-of_z w64 c.args.bound fits)) refl has

pub returns-clause-cut : goal.returns-clause-cut
returns-clause-cut g c =
    let fits : SFits w64 c.args.bound = c.ranges.bound in
    let low_fits : SFits w64 c.rest_of-rest.result.low = search rules in
    is_cut g.G.Gripped.bytes c.args.snapshot.now (answers_of g.F.Fn c.args.sieve.now.test) c.args.piece.now c.args.part _ c.rest_of-rest.result c.args.bound c.rest_of-rest.ensures ((λ i. int_le (sym (to_z-of_z w64 c.args.bound fits) i) (sym (to_z-of_z w64 c.rest_of-rest.result.low low_fits) i)) ∙ c.if-bound-rest.false) (ap Some (to_z-of_z w64 c.args.bound fits))

pub rows_over-requires-clause-rising : goal.rows_over-requires-clause-rising
rows_over-requires-clause-rising g c =
    let up : rises c.args.part.before ≡ true = search rules in
    rises_first c.args.part.before c.in_ok-here.here c.in_ok-before.before c.first_from-place.result up (in_two c.args.part.before c.in_ok-here.here c.in_ok-before.before c.first_from-place.result c.len.result c.first_from-place.ensures.within c.len.ensures c.in_ok-here.ensures c.in_ok-before.ensures)

pub invariant_of-part : goal.invariant_of-part
invariant_of-part g c =
    let up : rises c.args.part.before ≡ true = search rules in
    record { rising = rises_second c.args.part.before c.in_ok-here.here c.in_ok-before.before c.first_from-place.result up (in_two c.args.part.before c.in_ok-here.here c.in_ok-before.before c.first_from-place.result c.len.result c.first_from-place.ensures.within c.len.ensures c.in_ok-here.ensures c.in_ok-before.ensures) }

pub returns-clause-rows : goal.returns-clause-rows
returns-clause-rows g c =
    let fits : SFits w64 c.args.bound = c.ranges.bound in
    record {
      rows = c.in_ok-rows.ensures.rows;
      of = of_below c.args.piece.now.range c.rest_of-rest.result c.below.result c.args.part.from c.args.bound c.in_ok-rows.rows c.rest_of-rest.ensures (c.below.ensures ∙ ap (part_below c.rest_of-rest.result) (to_z-of_z w64 c.args.bound fits)) c.requires.within c.in_ok-rows.ensures.of;
    }
