use Rattle.std.proofs.Common.{rules, List, refl, sym, subst}
use Rattle.std.specs.List.{flat_map}
use Rattle.std.proofs.lemmas.Result.{err_from_is_err_and}
use Rattle.manifest_form.specs.declared.state.StoredFile.{StoredFile}
use Rattle.opened_segments.specs.Faults.{IsFaultOf, part_faults, stable_faults}
use Rattle.std.specs.Prelude.{◌≡◌, Contains, ◌↔◌}
use Rattle.flash_io.specs.Image.{Image, IsThere}
use Rattle.opened_segments.specs.Opened.{AreParts, IsOpenedSlot, IsSlotIn, IsStableIn, slot_with}
use Rattle.segment_flush.specs.Names.{stored_of}
use Rattle.opened_segments.proofs.Judging.{fault_first, ok_so}
use Rattle.opened_segments.proofs.Slots.{slot_opened, stored_is}
use Rattle.opened_segments.proofs.slot.slot_of.Goals as goal

pub returns-in_err-layer-clause-exact : goal.returns-in_err-layer-clause-exact
returns-in_err-layer-clause-exact g c = λ tells.
    let p = err_from_is_err_and c.from_residual.result c.from_residual.ensures.1 in
    let is : c.as_slice.result.now ≡ c.args.stored.now.delta = search rules in
    let f = part_faults c.args.own (g.D.Disk.files c.args.disk.now) c.args.schema.now in
    rw (p.1, p.2) (fault_first (flat_map f c.args.stored.now.delta) (stable_faults c.args.own (g.D.Disk.files c.args.disk.now) c.args.schema.now c.args.stored.now.stable) c.in_err-layer.field-0.0
    (subst (λ (files : List StoredFile). IsFaultOf (flat_map f files) c.in_err-layer.field-0.0) is (c.in_err-layer.ensures.exact tells)))

pub stable_of-requires-clause-each : goal.stable_of-requires-clause-each
stable_of-requires-clause-each g c = λ tells file. subst (λ (image : Image). Contains c.args.list.now file ↔ IsThere image file) (sym c.delta_of.ensures.untouched.same) (c.requires.each tells file)

pub returns-clause-read : goal.returns-clause-read
returns-clause-read g c = λ tells.
    ok_so c.made.result (slot_with c.args.stored.now c.in_ok-layer.layer c.in_ok-stable.stable) c.made.ensures.ok (IsSlotIn g.D.Reader.Grip.Gripped.bytes c.args.own (g.D.Disk.files c.args.disk.now) c.args.schema.now)
    (record {
      all = refl;
      files = c.in_ok-layer.ensures.read tells;
      stable = subst (λ (image : Image). IsStableIn g.D.Reader.Grip.Gripped.bytes c.args.own image c.args.schema.now c.args.stored.now.stable c.in_ok-stable.stable) c.delta_of.ensures.untouched.same (c.in_ok-stable.ensures.read tells);
    })

pub returns-clause-stored : goal.returns-clause-stored
returns-clause-stored g c =
    let is : c.as_slice.result.now ≡ c.args.stored.now.delta = search rules in
    ok_so c.made.result (slot_with c.args.stored.now c.in_ok-layer.layer c.in_ok-stable.stable) c.made.ensures.ok (λ slot. stored_of slot ≡ c.args.stored.now)
    (stored_is c.args.schema.now c.args.stored.now c.in_ok-layer.layer c.in_ok-stable.stable (subst (λ (files : List StoredFile). AreParts c.args.schema.now c.args.stored.now.range files c.in_ok-layer.layer) is c.in_ok-layer.ensures.parts))

pub returns-clause-slot : goal.returns-clause-slot
returns-clause-slot g c = λ next low.
    let is : c.as_slice.result.now ≡ c.args.stored.now.delta = search rules in
    ok_so c.made.result (slot_with c.args.stored.now c.in_ok-layer.layer c.in_ok-stable.stable) c.made.ensures.ok (IsOpenedSlot c.args.schema.now next)
    (slot_opened c.args.schema.now c.args.stored.now c.in_ok-layer.layer c.in_ok-stable.stable (subst (λ (files : List StoredFile). AreParts c.args.schema.now c.args.stored.now.range files c.in_ok-layer.layer) is c.in_ok-layer.ensures.parts) c.in_ok-stable.ensures.part next low)
