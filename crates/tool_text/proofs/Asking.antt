-- Regions that an ask may have, as a test.
use Rattle.std.proofs.Common.{◌≡◌, ◌≢◌, ℕ, suc, ◌<◌, ◌≤◌, Bool, true, false, not, ◌&&◌, List, [], ◌∷◌, length, take, get_or, refl, sym, ap, ◌∙◌, arith, nat_le, eq-eqb}
use Rattle.std.proofs.lemmas.Bool.{ne_eqb, true≢false, false≢true}
use Rattle.std.proofs.lemmas.List.{length-take, get_or-take}
use Rattle.std.proofs.lemmas.List.Folds.{list_any_at, list_any_none}
use Rattle.std.proofs.lemmas.List.Kept.{AllPairs-cons}
use Rattle.std.proofs.lemmas.Option.{slice_get_within, get_or_from_slice_get}
use Rattle.std.specs.List.{list_any}
use Rattle.flash_types.specs.declared.ask.AskRegion.{AskRegion}
use Rattle.flash_types.specs.declared.ask.AskError.{AskError}
use Rattle.flash_types.specs.declared.ask.AskError.TheVariants.{Empty, TooMany, Twice, Memory}
use Rattle.flash_types.specs.Asks.{AreDistinct, CanBeAsked, IsCause, IsFirstRepeat}
use Rattle.tool_text.specs.Scripts.{is_region, are_distinct, can_be_asked}

and_parts : (a b : Bool) → (a && b) ≡ true → (a ≡ true) × (b ≡ true)
and_parts true true h = (refl, refl)
and_parts true false h = absurd (false≢true h)
and_parts false b h = absurd (false≢true h)

not_true : (b : Bool) → not b ≡ true → b ≡ false
not_true true h = absurd (false≢true h)
not_true false h = refl

-- ---- from the test to the relation

pub from_test : (regions : List AskRegion) → are_distinct regions ≡ true → AreDistinct regions
from_test [] h = λ i j d lt len. absurd (omega arith)
from_test (r ∷ regions) h =
    let parts = and_parts (not (list_any (is_region r.region) regions)) (are_distinct regions) h in
    let none = not_true (list_any (is_region r.region) regions) parts.0 in
    AllPairs-cons (λ (a b : AskRegion). a.region ≢ b.region) r regions
    (λ k d lt same. absurd (true≢false (sym (list_any_at (is_region r.region) regions k d lt (eq-eqb (get_or regions k d).region r.region (sym same))) ∙ none)))
    (from_test regions parts.1)

-- ---- and back

pub to_test : (regions : List AskRegion) → AreDistinct regions → are_distinct regions ≡ true
to_test [] h = refl
to_test (r ∷ regions) h =
    let none : list_any (is_region r.region) regions ≡ false = list_any_none (is_region r.region) regions (λ k d lt. ne_eqb (get_or regions k d).region r.region (λ same. h 0 (suc k) d (omega arith) (omega (arith, lt)) (sym same))) in
    let others = to_test regions (λ i j d lt len. h (suc i) (suc j) d (omega (arith, lt)) (omega (arith, len))) in
    rw none (rw others refl)

-- ---- asks

few : (n : ℕ) → n ≤ 64 → nat_le n 64 ≡ true
few n le = grind (arith, le)

many : (n : ℕ) → 64 < n → nat_le n 64 ≡ false
many n lt = grind (arith, lt)

pub can_ask : (regions : List AskRegion) → CanBeAsked regions → can_be_asked regions ≡ true
can_ask [] h = absurd (h.some refl)
can_ask (r ∷ regions) h = rw (few (length (r ∷ regions)) h.few) (to_test (r ∷ regions) h.distinct)

repeats : (regions : List AskRegion) (id : ℕ) → IsFirstRepeat regions id → AreDistinct regions → ⊥
repeats regions id first distinct =
    let k = first.earlier.0 in
    let x = first.earlier.1 in
    let within : k < length (take first.place regions) = first.earlier.2 in
    let lt : first.place < length regions = slice_get_within regions first.place first.asked first.here in
    let before : k < first.place = omega (arith, within, length-take first.place regions) in
    let left : get_or regions k x ≡ x = sym (get_or-take first.place regions k x before) ∙ first.earlier.3 in
    let right : get_or regions first.place x ≡ first.asked = get_or_from_slice_get regions first.place first.asked x first.here in
    distinct k first.place x before lt (ap (λ (r : AskRegion). r.region) left ∙ first.earlier.4 ∙ sym first.is ∙ sym (ap (λ (r : AskRegion). r.region) right))

not_distinct : (regions : List AskRegion) (b : Bool) → are_distinct regions ≡ b → (AreDistinct regions → ⊥) → b ≡ false
not_distinct regions true is h = absurd (h (from_test regions is))
not_distinct regions false is h = refl

and_false : (a b : Bool) → b ≡ false → (a && b) ≡ false
and_false true b h = h
and_false false b h = refl

pub can_not_ask : (regions : List AskRegion) (error : AskError) → IsCause regions error → (error ≡ Memory → ⊥) → can_be_asked regions ≡ false
can_not_ask regions Empty cause other = rw cause refl
can_not_ask [] (TooMany count) cause other = refl
can_not_ask (r ∷ regions) (TooMany count) cause other = rw (many (length (r ∷ regions)) cause.1) refl
can_not_ask [] (Twice id) cause other = refl
can_not_ask (r ∷ regions) (Twice id) cause other =
    and_false (nat_le (length (r ∷ regions)) 64) (are_distinct (r ∷ regions)) (not_distinct (r ∷ regions) (are_distinct (r ∷ regions)) refl (repeats (r ∷ regions) id cause.1))
can_not_ask regions Memory cause other = absurd (other refl)
