use Rattle.std.proofs.Common.{◌≡◌, ◌∙◌, ◌+◌, sym, ap, Some, arith, rules, ℤ, ℕ}
use Rattle.std.specs.BTreeMap.{get}
use Rattle.std.specs.Ordering.{nat_cmp}
use Rattle.manifest_form.proofs.Slotting.{fits_known, fits_inserted, put_in, own_id}
use Rattle.manifest_form.proofs.slots.put_new.Goals as goal

pub returns-in_default-insert_place-clause-fits : goal.returns-in_default-insert_place-clause-fits
returns-in_default-insert_place-clause-fits c =
    let s = c.args.slots.now in
    let id = c.args.segment.id in
    let same : c.insert_place.new.places.entries ≡ s.places.entries = search rules in
    rw same (fits_known (get nat_cmp s.ids) (get nat_cmp c.insert_id.new.ids) s.turn s.turn id s.places.entries (omega arith) c.in-Ok.ensures.others c.requires.none c.requires.fits)

pub returns-clause-segments : goal.returns-clause-segments
returns-clause-segments c =
    let s = c.args.slots.now in
    let place = c.next_place-place.result in
    let is = c.next_place-place.ensures in
    rw c.in-Ok-insert_place.ensures.entries (put_in (get nat_cmp s.ids) s.turn place c.args.segment s.places.entries c.insert_place.ensures.ordered c.requires.fits (sym (ap (λ (x : ℤ × ℕ). x.0) is)) (ap (λ (x : ℤ × ℕ). x.1) is))

pub returns-clause-fits : goal.returns-clause-fits
returns-clause-fits c =
    let s = c.args.slots.now in
    let id = c.args.segment.id in
    let place = c.next_place-place.result in
    let is = c.next_place-place.ensures in
    let found = get nat_cmp c.insert_id.new.ids in
    let next : c.in-Some.turn ≡ s.turn + 1 = search rules in
    let before : place.1 ≡ s.turn = ap (λ (x : ℤ × ℕ). x.1) is in
    let others = fits_known (get nat_cmp s.ids) found s.turn c.in-Some.turn id s.places.entries (omega (arith, next)) c.in-Ok.ensures.others c.requires.none c.requires.fits in
    rw c.in-Ok-insert_place.ensures.entries (fits_inserted found c.in-Some.turn place (Some c.args.segment) s.places.entries (sym (ap (λ (x : ℤ × ℕ). x.0) is), omega (arith, next, before), c.in-Ok.ensures.ok id ∙ own_id id _ _) others)
