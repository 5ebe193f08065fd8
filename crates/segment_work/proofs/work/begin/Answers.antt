use Rattle.std.proofs.Common.{◌≡◌, ◌∙◌, sym, ap, subst, ℕ, ◌+◌, ◌≤◌, List, Some, true, length, map, take, drop, arith}
use Rattle.std.specs.Prelude.{position, ◌==◌}
use Rattle.delta_layer.specs.declared.view.SegmentView.{SegmentView}
use Rattle.flash_types.specs.Ranges.{least_handle}
use Rattle.segment_list.specs.Slots.{Slotted, view_of}
use Rattle.segment_work.specs.Begun.{AreFor, segments_for}
use Rattle.segment_work.specs.Jobs.{can_begin_on, segment_of}
use Rattle.segment_work.proofs.Begins.{begun_at, enough}
use Rattle.segment_work.proofs.work.begin.Goals as goal

pub views_at-requires : goal.views_at-requires
views_at-requires g c =
    let at : position (λ (s : Slotted g.row.G.Denot). s.id == segment_of c.args.job) c.args.list.now ≡ Some c.in-Some.place = ap (λ (n : ℕ). position (λ (s : Slotted g.row.G.Denot). s.id == n) c.args.list.now) (sym c.segment_of.ensures) ∙ sym c.slot_with.ensures ∙ c.in-Some.is in
    let can : can_begin_on c.args.job (drop c.in-Some.place c.args.list.now) ≡ true = ap (λ (slots : List (Slotted g.row.G.Denot)). can_begin_on c.args.job (drop c.in-Some.place slots)) (sym c.slots.ensures) ∙ sym c.can_begin_at.ensures ∙ c.if-not-can_begin_at.false in
    let many : c.in-Some.place + segments_for c.args.job ≤ length c.args.list.now = enough c.args.job c.args.list.now c.in-Some.place at can in
    omega (arith, many, c.segments_for.ensures, ap (λ (slots : List (Slotted g.row.G.Denot)). length slots) c.slots-2.ensures)

pub invariant_of-result : goal.invariant_of-result
invariant_of-result g c =
    let at : position (λ (s : Slotted g.row.G.Denot). s.id == segment_of c.args.job) c.args.list.now ≡ Some c.in-Some.place = ap (λ (n : ℕ). position (λ (s : Slotted g.row.G.Denot). s.id == n) c.args.list.now) (sym c.segment_of.ensures) ∙ sym c.slot_with.ensures ∙ c.in-Some.is in
    let can : can_begin_on c.args.job (drop c.in-Some.place c.args.list.now) ≡ true = ap (λ (slots : List (Slotted g.row.G.Denot)). can_begin_on c.args.job (drop c.in-Some.place slots)) (sym c.slots.ensures) ∙ sym c.can_begin_at.ensures ∙ c.if-not-can_begin_at.false in
    let views : c.in_ok-views.views ≡ map view_of (take (segments_for c.args.job) (drop c.in-Some.place c.args.list.now)) =
    c.in_ok-views.ensures
    ∙ ap (λ (n : ℕ). map view_of (take n (drop c.in-Some.place c.slots-2.result.now))) c.segments_for.ensures
    ∙ ap (λ (slots : List (Slotted g.row.G.Denot)). map view_of (take (segments_for c.args.job) (drop c.in-Some.place slots))) c.slots-2.ensures in
    record {
      rows_are = c.requires.rows;
      views_are = subst (λ (vs : List (SegmentView g.row.G.Denot)). AreFor c.args.job vs) (sym views) (begun_at c.args.job c.args.list.now least_handle c.in-Some.place c.covers.ensures at can);
    }
