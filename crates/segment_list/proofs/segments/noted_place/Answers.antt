use Rattle.std.proofs.Common.{◌≡◌, ◌∙◌, sym, ap, ℕ, ℤ, Some, true, false, nat_eq, FitsSigned, get_or, position, w64, rules, arith}
use Rattle.std.specs.BTreeMap.{get}
use Rattle.std.specs.Ordering.{nat_cmp}
use Rattle.std.proofs.lemmas.Bool.{eq-eqb}
use Rattle.std.proofs.lemmas.Bool.Decides.{nat_tests}
use Rattle.std.proofs.lemmas.Int.{to_z-of_z}
use Rattle.flash_types.specs.Ranges.{holds, least_handle}
use Rattle.segment_list.specs.Slots.{Slotted}
use Rattle.segment_list.proofs.Listed.{cover_from, holds_its_low, no_place, other_number, same_place, unknown_number}
use Rattle.segment_list.proofs.segments.noted_place.Goals as goal

pub returns-in_default : goal.returns-in_default
returns-in_default g c = sym (unknown_number (get nat_cmp c.args.lows.now) c.args.slots.now c.args.id c.requires.noted (sym c.low_of.ensures ∙ c.in_default.is))

pub place_of-requires : goal.place_of-requires
place_of-requires g c = cover_from least_handle c.args.slots.now c.requires.cover

pub returns-in_default-place_of : goal.returns-in_default-place_of
returns-in_default-place_of g c =
    let at : get nat_cmp c.args.lows.now c.args.id ≡ Some c.in-Some.low = sym c.low_of.ensures ∙ c.in-Some.is in
    let fits : FitsSigned w64 c.in-Some.low = search (rules, c.low_of.type_inv, c.in-Some.is) in
    let place : c.place_of.result ≡ position (λ (s : Slotted g.row.G.Denot). holds s.range c.in-Some.low) c.args.slots.now =
    c.place_of.ensures ∙ ap (λ (x : ℤ). position (λ (s : Slotted g.row.G.Denot). holds s.range x) c.args.slots.now) (to_z-of_z w64 c.in-Some.low fits) in
    sym (no_place (λ (s : Slotted g.row.G.Denot). nat_eq s.id c.args.id) (λ (s : Slotted g.row.G.Denot). holds s.range c.in-Some.low) c.args.slots.now (holds_its_low (get nat_cmp c.args.lows.now) c.args.slots.now c.args.id c.in-Some.low c.requires.cover c.requires.noted at) (sym place ∙ c.in_default-place_of.is))

pub returns-then-id : goal.returns-then-id
returns-then-id g c =
    let at : get nat_cmp c.args.lows.now c.args.id ≡ Some c.in-Some.low = sym c.low_of.ensures ∙ c.in-Some.is in
    let fits : FitsSigned w64 c.in-Some.low = search (rules, c.low_of.type_inv, c.in-Some.is) in
    let place : c.place_of.result ≡ position (λ (s : Slotted g.row.G.Denot). holds s.range c.in-Some.low) c.args.slots.now =
    c.place_of.ensures ∙ ap (λ (x : ℤ). position (λ (s : Slotted g.row.G.Denot). holds s.range x) c.args.slots.now) (to_z-of_z w64 c.in-Some.low fits) in
    let is : nat_eq (get_or c.args.slots.now c.in-Some-place_of.place c.index-slots-place.result).id c.args.id ≡ true = eq-eqb (get_or c.args.slots.now c.in-Some-place_of.place c.index-slots-place.result).id c.args.id (ap (λ (s : Slotted g.row.G.Denot). s.id) (sym c.index-slots-place.is) ∙ sym c.id.ensures ∙ c.if-id.true) in
    sym (same_place (λ (s : Slotted g.row.G.Denot). nat_eq s.id c.args.id) (λ (s : Slotted g.row.G.Denot). holds s.range c.in-Some.low) c.args.slots.now (holds_its_low (get nat_cmp c.args.lows.now) c.args.slots.now c.args.id c.in-Some.low c.requires.cover c.requires.noted at) c.in-Some-place_of.place c.index-slots-place.result (sym place ∙ c.in-Some-place_of.is) is)

pub returns : goal.returns
returns g c =
    let at : get nat_cmp c.args.lows.now c.args.id ≡ Some c.in-Some.low = sym c.low_of.ensures ∙ c.in-Some.is in
    let fits : FitsSigned w64 c.in-Some.low = search (rules, c.low_of.type_inv, c.in-Some.is) in
    let place : c.place_of.result ≡ position (λ (s : Slotted g.row.G.Denot). holds s.range c.in-Some.low) c.args.slots.now =
    c.place_of.ensures ∙ ap (λ (x : ℤ). position (λ (s : Slotted g.row.G.Denot). holds s.range x) c.args.slots.now) (to_z-of_z w64 c.in-Some.low fits) in
    let out : nat_eq (get_or c.args.slots.now c.in-Some-place_of.place c.index-slots-place.result).id c.args.id ≡ false = ap (λ (s : Slotted g.row.G.Denot). nat_eq s.id c.args.id) (sym c.index-slots-place.is) ∙ ap (λ (n : ℕ). nat_eq n c.args.id) (sym c.id.ensures) ∙ grind (arith, nat_tests, c.if-id.false) in
    sym (other_number (get nat_cmp c.args.lows.now) c.args.slots.now c.args.id c.in-Some-place_of.place c.in-Some.low c.index-slots-place.result c.requires.cover c.requires.noted at (sym place ∙ c.in-Some-place_of.is) out)
