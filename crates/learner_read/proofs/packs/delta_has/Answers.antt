use Rattle.std.proofs.Common.{◌≡◌, ◌∙◌, ◌&&◌, ◌≤◌, length, subst, ap, rules, arith, SFits, w64}
use Rattle.std.specs.Prelude.{int_le}
use Rattle.std.specs.List.{list_any}
use Rattle.std.proofs.lemmas.Int.{to_z-of_z}
use Rattle.delta_index.specs.Indexes.{Entry, IsFirstFrom}
use Rattle.learner_read.proofs.Testing.{Lies, first_tells, none_from}
use Rattle.learner_read.proofs.packs.delta_has.Goals as goal

pub returns-then-place-len : goal.returns-then-place-len
returns-then-place-len c =
    let entries = c.index-index.result.now in
    let fits : SFits w64 c.args.least = c.ranges.least in
    let first : IsFirstFrom c.args.least entries c.first_from-place.result = subst (λ l. IsFirstFrom l c.index-index.result.now c.first_from-place.result) (to_z-of_z w64 c.args.least fits) c.first_from-place.ensures in
    let le : length c.index-index.result.now ≤ c.first_from-place.result = omega (arith, c.if-place-len.true, c.len.ensures.count) in
    none_from c.args.least c.args.greatest entries c.first_from-place.result first.before le ∙ ap (list_any (Lies c.args.least c.args.greatest)) c.index-index.ensures

pub returns : goal.returns
returns c =
    let entries = c.index-index.result.now in
    let row = c.at-row.result in
    let entry : Entry = ((row.handle, row.ts), (row.number, row.row)) in
    let fits : SFits w64 c.args.least = c.ranges.least in
    let high_fits : SFits w64 c.args.greatest = c.ranges.greatest in
    let row_fits : SFits w64 c.at-row.result.handle = search rules in
    let first : IsFirstFrom c.args.least entries c.first_from-place.result = subst (λ l. IsFirstFrom l c.index-index.result.now c.first_from-place.result) (to_z-of_z w64 c.args.least fits) c.first_from-place.ensures in
    (λ i. int_le (to_z-of_z w64 c.at-row.result.handle row_fits i) (to_z-of_z w64 c.args.greatest high_fits i))
    ∙ first_tells c.args.least c.args.greatest entries c.first_from-place.result entry c.len.ensures.rising first.before (first.from c.first_from-place.result entry (omega arith) c.at-row.ensures) c.at-row.ensures
    ∙ ap (list_any (Lies c.args.least c.args.greatest)) c.index-index.ensures
