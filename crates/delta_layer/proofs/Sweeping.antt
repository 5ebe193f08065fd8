-- Delete-ranges beside handles that rise.
use Rattle.std.proofs.Common.{◌≡◌, ◌∙◌, refl, sym, ap, subst, ℕ, suc, ℤ, ◌+◌, ◌-◌, ◌<◌, ◌≤ℤ◌, Bool, true, false, true≢false, not, cond, ◌&&◌, ◌||◌, List, [], ◌∷◌, ◌++◌, take, drop, get_or, slice_get, Option, Some, None, arith}
use Rattle.std.specs.Prelude.{int_le, int_lt}
use Rattle.std.specs.List.{AllByRecursion, cons_option}
use Rattle.std.proofs.lemmas.Int.{ints}
use Rattle.std.proofs.lemmas.List.Sorted.{list_any-IsPermutation}
use Rattle.std.specs.List.Sorted.{IsSortedByKey, IsPermutation}
use Rattle.std.specs.Ordering.{int_cmp, is_lt}
use Rattle.std.specs.declared.cmp.Ordering.TheVariants.{Less, Equal, Greater}
use Rattle.column_block.specs.declared.cell.Version.{Version}
use Rattle.flash_types.specs.Ranges.{holds, is_below}
use Rattle.flash_types.specs.declared.range.HandleRange.{HandleRange}
use Rattle.delta_layer.specs.Overlay.{any_holds, reached, further, stays, AreByLow}
use Rattle.column_block.proofs.Ordered.{Up, Above, handle_le, each_left, each_right, up_left, up_cross}
use Rattle.delta_layer.proofs.Places.{take_more, take_split}

pub by_low_rest : (range : HandleRange) (others : List HandleRange) → AreByLow (range ∷ others) → AreByLow others
by_low_rest range [] order = tt
by_low_rest range (next ∷ others) order = order.1

or_assoc : (a b c : Bool) → ((a || b) || c) ≡ (a || (b || c))
or_assoc true b c = refl
or_assoc false b c = refl

reached_further : (reach : Option (Option ℤ)) (high : Option ℤ) (h : ℤ) → reached (further reach high) h ≡ (reached reach h || is_below h high)
reached_further None high h = refl
reached_further (Some None) high h = refl
reached_further (Some (Some a)) None h = sym (or_true (int_lt h a))
  where
    or_true : (b : Bool) → (b || true) ≡ true
    or_true true = refl
    or_true false = refl
reached_further (Some (Some a)) (Some b) h = one a b h
  where
    one : (a b h : ℤ) → int_lt h (cond (int_lt a b) b a) ≡ (int_lt h a || int_lt h b)
    one a b h = grind (arith, ints)

-- a range that begins at or below a handle holds the handles from there to its end
holds_below : (range : HandleRange) (handle h : ℤ) → int_lt handle range.low ≡ false → handle ≤ℤ h → holds range h ≡ is_below h range.high
holds_below range handle h above le = ap (λ b. b && is_below h range.high) (lower range.low handle h above le)
  where
    lower : (a handle h : ℤ) → int_lt handle a ≡ false → handle ≤ℤ h → int_le a h ≡ true
    lower a handle h above le = grind (arith, ints)

pub sweep_on : (rest others : List HandleRange) (first : HandleRange) (reach : Option (Option ℤ)) (handle h : ℤ) → rest ≡ first ∷ others → int_lt handle first.low ≡ false → handle ≤ℤ h
    → (reached (further reach first.high) h || any_holds others h) ≡ (reached reach h || any_holds rest h)
sweep_on rest others first reach handle h is above le =
    ap (λ b. b || any_holds others h) (reached_further reach first.high h) ∙ or_assoc (reached reach h) (is_below h first.high) (any_holds others h)
    ∙ ap (λ b. reached reach h || (b || any_holds others h)) (sym (holds_below first handle h above le))
    ∙ ap (λ rs. reached reach h || any_holds rs h) (sym is)

-- none of the ranges that begin above the handle holds it
none_holds : (range : HandleRange) (others : List HandleRange) (handle : ℤ) → AreByLow (range ∷ others) → int_lt handle range.low ≡ true → any_holds (range ∷ others) handle ≡ false
none_holds range [] handle order above = ap (λ b. (b && is_below handle range.high) || false) (higher range.low handle above)
  where
    higher : (a handle : ℤ) → int_lt handle a ≡ true → int_le a handle ≡ false
    higher a handle above = grind (arith, ints)
none_holds range (next ∷ others) handle order above =
    ap (λ b. (b && is_below handle range.high) || any_holds (next ∷ others) handle) (higher range.low handle above) ∙ none_holds next others handle order.1 (further_on range.low next.low handle order.0 above)
  where
    higher : (a handle : ℤ) → int_lt handle a ≡ true → int_le a handle ≡ false
    higher a handle above = grind (arith, ints)

    further_on : (a b handle : ℤ) → int_lt b a ≡ false → int_lt handle a ≡ true → int_lt handle b ≡ true
    further_on a b handle order above = grind (arith, ints)

or_false_right : (b : Bool) → (b || false) ≡ b
or_false_right true = refl
or_false_right false = refl

pub sweep_here : (rest others : List HandleRange) (first : HandleRange) (reach : Option (Option ℤ)) (handle : ℤ) (total : Bool) → rest ≡ first ∷ others → AreByLow rest → int_lt handle first.low ≡ true → (reached reach handle || any_holds rest handle) ≡ total → reached reach handle ≡ total
sweep_here rest others first reach handle total is order above so_far =
    let none : any_holds rest handle ≡ false = ap (λ rs. any_holds rs handle) is ∙ none_holds first others handle (subst AreByLow is order) above in
    sym (or_false_right (reached reach handle)) ∙ ap (λ b. reached reach handle || b) (sym none) ∙ so_far

pub sweep_end : (rest : List HandleRange) (reach : Option (Option ℤ)) (handle : ℤ) (total : Bool) → rest ≡ [] → (reached reach handle || any_holds rest handle) ≡ total → reached reach handle ≡ total
sweep_end rest reach handle total is so_far = sym (or_false_right (reached reach handle)) ∙ ap (λ rs. reached reach handle || any_holds rs handle) (sym is) ∙ so_far

-- ---- beside versions

-- each of these has a handle at most h
abbrev pub AreUpTo : ℤ → List Version → Type 0
AreUpTo h versions = AllByRecursion (λ (v : Version). v.handle ≤ℤ h) versions

abbrev Low : ℤ → Version → Type 0
Low h v = v.handle ≤ℤ h

-- what is swept at the versions so far serves all handles from the last of them on
abbrev pub IsSweptAt : List HandleRange → List Version → List HandleRange → Option (Option ℤ) → Type 0
IsSweptAt ranges versions rest reach = (h : ℤ) → AreUpTo h versions → (reached reach h || any_holds rest h) ≡ any_holds ranges h

up_to_next : (xs : List Version) (v : Version) → AllByRecursion (λ (x : Version). Above x (v ∷ [])) xs → AreUpTo v.handle xs
up_to_next [] v cross = tt
up_to_next (x ∷ xs) v cross = (handle_le x v cross.0.0, up_to_next xs v cross.1)

-- the first i + 1 versions are a front of the first count
front_of : (count i : ℕ) (all : List Version) → i < count → take count all ≡ take (i + 1) all ++ take (count - (i + 1)) (drop (i + 1) all)
front_of count i all lt = (let e : count ≡ i + 1 + (count - (i + 1)) = omega (arith, lt) in ap (λ n. take n all) e ∙ take_split (i + 1) (count - (i + 1)) all)

pub up_to_here : (all : List Version) (count i : ℕ) (v : Version) → i < count → slice_get all i ≡ Some v → Up (take count all) → AreUpTo v.handle (take i all)
up_to_here all count i v lt at up =
    let one : take (i + 1) all ≡ take i all ++ v ∷ [] = take_more all i ∙ ap (λ o. take i all ++ cons_option o []) at in
    let part : Up (take i all ++ v ∷ []) = subst Up one (up_left (take (i + 1) all) (take (count - (i + 1)) (drop (i + 1) all)) (subst Up (front_of count i all lt) up)) in
    up_to_next (take i all) v (up_cross (take i all) (v ∷ []) part)

-- the sweep at one more version
pub swept_more : (ranges rest others : List HandleRange) (reach end : Option (Option ℤ)) (all : List Version) (i : ℕ) (v : Version) → slice_get all i ≡ Some v → IsSweptAt ranges (take i all) rest reach
    → ((h : ℤ) → v.handle ≤ℤ h → (reached end h || any_holds others h) ≡ (reached reach h || any_holds rest h)) → IsSweptAt ranges (take (i + 1) all) others end
swept_more ranges rest others reach end all i v at so_far above h up_to =
    let one : take (i + 1) all ≡ take i all ++ v ∷ [] = take_more all i ∙ ap (λ o. take i all ++ cons_option o []) at in
    let both = subst (AreUpTo h) one up_to in
    above h (each_right (Low h) (take i all) (v ∷ []) both).0 ∙ so_far h (each_left (Low h) (take i all) (v ∷ []) both)

-- whether the version at a place counts
pub stays_here : (range : HandleRange) (ranges rest others : List HandleRange) (reach end : Option (Option ℤ)) (all : List Version) (count i : ℕ) (v : Version) (b c : Bool) → i < count → slice_get all i ≡ Some v → Up (take count all)
    → IsSweptAt ranges (take i all) rest reach → reached end v.handle ≡ (reached reach v.handle || any_holds rest v.handle) → holds range v.handle ≡ b → reached end v.handle ≡ c → stays range ranges v ≡ (b && not c)
stays_here range ranges rest others reach end all count i v b c lt at up so_far here in' out =
    (λ k. in' k && not ((sym (so_far v.handle (up_to_here all count i v lt at up)) ∙ sym here ∙ out) k))

-- ranges that are sorted by their low ends
pub by_low : (ranges : List HandleRange) → IsSortedByKey (λ (range : HandleRange). range.low) int_cmp ranges → AreByLow ranges
by_low [] sorted = tt
by_low (range ∷ []) sorted = tt
by_low (range ∷ next ∷ others) sorted = (one (int_lt next.low range.low) (sorted 0 range (omega arith) (omega arith)), by_low (next ∷ others) (λ k d least lt. ap (λ n. is_lt (int_cmp (get_or (range ∷ next ∷ others) n d).low (get_or (next ∷ others) k d).low)) (sym (place k)) ∙ sorted (suc k) d (omega arith) (omega (arith, lt))))
  where
    place : (k : ℕ) → suc k + 1 ≡ suc (k + 1)
    place k = omega arith

    one : (b : Bool) → is_lt (cond b Less (cond (int_lt range.low next.low) Greater Equal)) ≡ false → b ≡ false
    one true e = absurd (true≢false e)
    one false e = refl

pub same_holds : (ranges sorted clears : List HandleRange) → IsPermutation ranges sorted → ranges ≡ clears → (h : ℤ) → any_holds sorted h ≡ any_holds clears h
same_holds ranges sorted clears moved is h = sym (list_any-IsPermutation (λ (range : HandleRange). holds range h) ranges sorted moved) ∙ ap (λ rs. any_holds rs h) is
