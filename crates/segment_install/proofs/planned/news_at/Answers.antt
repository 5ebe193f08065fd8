use Rattle.std.proofs.Common.{◌≡◌, ◌∙◌, ◌+◌, sym, ap, subst, ℕ, Some, arith}
use Rattle.std.specs.Prelude.{slice_get}
use Rattle.delta_layer.specs.declared.built.Job.TheVariants.{Compact, MergeDelta, Split, Merge}
use Rattle.segment_work.specs.Begun.{segments_for}
use Rattle.segment_install.specs.Plans.{AreHalvesBuilt, IsBothBuilt, IsOneBuilt}
use Rattle.segment_install.proofs.News.{built_there, some_fits, stands_there, view_fits}
use Rattle.segment_install.proofs.planned.news_at.Goals as goal

pub compacted-requires-clause-fits : goal.compacted-requires-clause-fits
compacted-requires-clause-fits g c =
    let one : segments_for c.args.built.now.job ≡ 1 = ap segments_for c.in-Compact.is in
    let there : slice_get c.args.slots.now c.args.place ≡ Some c.index-slots-place.result = stands_there c.args.slots.now c.args.place c.index-slots-place.result (omega (arith, c.requires.within, one)) c.index-slots-place.is in
    let of = (built_there c.args.first c.args.place c.args.built.now c.args.slots.now c.requires c.index-slots-place.result there (Compact c.in-Compact.field-0) c.in-Compact.is).0 in
    view_fits c.args.first c.args.place c.args.built.now c.args.slots.now c.requires c.index-slots-place.result there of.view of.views

pub merged-requires-clause-built : goal.merged-requires-clause-built
merged-requires-clause-built g c =
    let one : segments_for c.args.built.now.job ≡ 1 = ap segments_for c.in-MergeDelta.is in
    let there : slice_get c.args.slots.now c.args.place ≡ Some c.index-slots-place-in-MergeDelta.result = stands_there c.args.slots.now c.args.place c.index-slots-place-in-MergeDelta.result (omega (arith, c.requires.within, one)) c.index-slots-place-in-MergeDelta.is in
    let of = built_there c.args.first c.args.place c.args.built.now c.args.slots.now c.requires c.index-slots-place-in-MergeDelta.result there (MergeDelta c.in-MergeDelta.field-0) c.in-MergeDelta.is in
    subst (λ (n : ℕ). IsOneBuilt n c.args.built.now) (sym of.1) of.0

pub merged-requires-clause-fits : goal.merged-requires-clause-fits
merged-requires-clause-fits g c =
    let one : segments_for c.args.built.now.job ≡ 1 = ap segments_for c.in-MergeDelta.is in
    let there : slice_get c.args.slots.now c.args.place ≡ Some c.index-slots-place-in-MergeDelta.result = stands_there c.args.slots.now c.args.place c.index-slots-place-in-MergeDelta.result (omega (arith, c.requires.within, one)) c.index-slots-place-in-MergeDelta.is in
    let of = (built_there c.args.first c.args.place c.args.built.now c.args.slots.now c.requires c.index-slots-place-in-MergeDelta.result there (MergeDelta c.in-MergeDelta.field-0) c.in-MergeDelta.is).0 in
    view_fits c.args.first c.args.place c.args.built.now c.args.slots.now c.requires c.index-slots-place-in-MergeDelta.result there of.view of.views

pub halves-requires-clause-built : goal.halves-requires-clause-built
halves-requires-clause-built g c =
    let one : segments_for c.args.built.now.job ≡ 1 = ap segments_for c.in-Split.is in
    let there : slice_get c.args.slots.now c.args.place ≡ Some c.index-slots-place-in-Split.result = stands_there c.args.slots.now c.args.place c.index-slots-place-in-Split.result (omega (arith, c.requires.within, one)) c.index-slots-place-in-Split.is in
    let of = built_there c.args.first c.args.place c.args.built.now c.args.slots.now c.requires c.index-slots-place-in-Split.result there (Split c.in-Split.field-0) c.in-Split.is in
    subst (λ (n : ℕ). AreHalvesBuilt n c.args.built.now) (sym of.1) of.0

pub halves-requires-clause-fits : goal.halves-requires-clause-fits
halves-requires-clause-fits g c =
    let one : segments_for c.args.built.now.job ≡ 1 = ap segments_for c.in-Split.is in
    let there : slice_get c.args.slots.now c.args.place ≡ Some c.index-slots-place-in-Split.result = stands_there c.args.slots.now c.args.place c.index-slots-place-in-Split.result (omega (arith, c.requires.within, one)) c.index-slots-place-in-Split.is in
    let of = (built_there c.args.first c.args.place c.args.built.now c.args.slots.now c.requires c.index-slots-place-in-Split.result there (Split c.in-Split.field-0) c.in-Split.is).0 in
    view_fits c.args.first c.args.place c.args.built.now c.args.slots.now c.requires c.index-slots-place-in-Split.result there of.view of.views

pub joined-requires-clause-built : goal.joined-requires-clause-built
joined-requires-clause-built g c =
    let two : segments_for c.args.built.now.job ≡ 2 = ap segments_for c.in-Merge.is in
    let there : slice_get c.args.slots.now c.args.place ≡ Some c.index-slots-place-in-Merge-2.result = stands_there c.args.slots.now c.args.place c.index-slots-place-in-Merge-2.result (omega (arith, c.requires.within, two)) c.index-slots-place-in-Merge-2.is in
    let of = built_there c.args.first c.args.place c.args.built.now c.args.slots.now c.requires c.index-slots-place-in-Merge-2.result there (Merge c.in-Merge.field-0) c.in-Merge.is in
    subst (λ (n : ℕ). IsBothBuilt n c.args.built.now) (sym of.1) of.0

pub joined-requires-clause-left : goal.joined-requires-clause-left
joined-requires-clause-left g c =
    let two : segments_for c.args.built.now.job ≡ 2 = ap segments_for c.in-Merge.is in
    let none : c.args.place + 0 ≡ c.args.place = omega arith in
    let there : slice_get c.args.slots.now c.args.place ≡ Some c.index-slots-place-in-Merge-2.result = stands_there c.args.slots.now c.args.place c.index-slots-place-in-Merge-2.result (omega (arith, c.requires.within, two)) c.index-slots-place-in-Merge-2.is in
    some_fits c.args.first c.args.place 0 c.args.built.now c.args.slots.now c.index-slots-place-in-Merge-2.result c.requires (ap (slice_get c.args.slots.now) none ∙ there)

pub joined-requires-clause-right : goal.joined-requires-clause-right
joined-requires-clause-right g c =
    let two : segments_for c.args.built.now.job ≡ 2 = ap segments_for c.in-Merge.is in
    some_fits c.args.first c.args.place 1 c.args.built.now c.args.slots.now c.index-slots-place-in-Merge.result c.requires
    (stands_there c.args.slots.now (c.args.place + 1) c.index-slots-place-in-Merge.result (omega (arith, c.requires.within, two)) c.index-slots-place-in-Merge.is)
