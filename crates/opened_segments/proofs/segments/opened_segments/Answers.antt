use Rattle.std.proofs.Common.{rules, ◌≡◌, ◌∙◌, ℕ, List, true, map, sym, subst}
use Rattle.std.specs.List.{list_all}
use Rattle.std.specs.Prelude.{Contains, ◌↔◌}
use Rattle.flash_io.specs.Image.{Image, IsThere}
use Rattle.manifest_form.specs.States.{segment_below}
use Rattle.manifest_form.specs.declared.state.StoredSegment.{StoredSegment}
use Rattle.replica_state.specs.Core.{AreSlots}
use Rattle.opened_segments.proofs.Judging.{ok_so}
use Rattle.opened_segments.proofs.Slots.{formed_below, slots_in_order}
use Rattle.opened_segments.proofs.segments.opened_segments.Goals as goal

pub slots_of-requires-clause-each : goal.slots_of-requires-clause-each
slots_of-requires-clause-each g c = λ tells file.
    let is : c.as_slice.result.now ≡ c.in_ok-list.list.items = search rules in
    subst (λ (l : List ℕ). Contains l file ↔ IsThere (g.D.Disk.files c.list.new.self) file) (sym is) (subst (λ (image : Image). Contains c.in_ok-list.list.items file ↔ IsThere image file) (sym c.in_ok-list.ensures.files) (c.in_ok-list.ensures.each tells file))

pub returns-clause-order : goal.returns-clause-order
returns-clause-order g c =
    let s = c.args.state.now in
    let is : map (λ segment. segment.now) c.as_slice-2.result.now ≡ s.segments = search rules in
    ok_so c.listed.result c.in_ok-slots.slots.items c.listed.ensures.ok (AreSlots c.args.schema.now s.next 0 0)
    (slots_in_order c.args.schema.now s.next c.in_ok-slots.slots.items (c.in_ok-slots.ensures.each_slot s.next (subst (λ (ss : List StoredSegment). list_all (segment_below s.next) ss ≡ true) (sym is) (formed_below c.args.own s c.requires.formed))))
