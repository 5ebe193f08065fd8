-- The handles of versions that rise, and the middle one.
use Rattle.std.proofs.Common.{◌≡◌, ◌∙◌, ℕ, ℤ, pos, zero, suc, ◌+◌, ◌<◌, ◌/◌, List, [], ◌∷◌, ◌++◌, Bool, true, false, ◌&&◌, Some, map, take, length, slice_get, get_or, int_le, int_lt, refl, sym, ap, subst, arith}
use Rattle.std.specs.List.{All, AllByRecursion}
use Rattle.std.specs.List.Sorted.{IsSorted, IsStrictlySortedBy}
use Rattle.std.specs.Ordering.{int_cmp, int_eq, is_lt, eq_by_cmp}
use Rattle.std.specs.declared.cmp.Ordering.TheVariants.{Less}
use Rattle.std.proofs.lemmas.Cmp.{int_cmp_total}
use Rattle.std.proofs.lemmas.Int.{ints}
use Rattle.std.proofs.lemmas.List.{get_or-map, length-map, take_more}
use Rattle.std.proofs.lemmas.List.Elements.{All-cons}
use Rattle.std.proofs.lemmas.List.Filters.{All-dedup}
use Rattle.std.proofs.lemmas.List.Kept.{IsStrictlySortedBy-dedup}
use Rattle.std.proofs.lemmas.Option.{get_or_from_slice_get, slice_get_within}
use Rattle.column_block.specs.declared.cell.Version.{Version}
use Rattle.flash_types.specs.Ranges.{holds, is_below}
use Rattle.flash_types.specs.declared.range.HandleRange.{HandleRange}
use Rattle.column_block.specs.Order.{Rise}
use Rattle.version_gc.proofs.Collections.{not_below}
use Rattle.delta_layer.specs.Present.{AreWithin}
use Rattle.segment_split.specs.Halves.{handles, IsCut, IsMiddle}

-- ---- one more handle in a list

pub one_more : {X : Type 0} (xs old new : List X) (i : ℕ) (x : X) → slice_get xs i ≡ Some x → old ≡ take i xs → new ≡ old ++ x ∷ [] → new ≡ take (i + 1) xs
one_more xs old new i x at so_far is =
    let within : i < length xs = slice_get_within xs i x at in
    let here : get_or xs i x ≡ x = get_or_from_slice_get xs i x x at in
    let more = take_more xs i x within in
    is ∙ ap (λ ys. ys ++ x ∷ []) so_far ∙ ap (λ y. take i xs ++ y ∷ []) (sym here) ∙ sym more

-- ---- they rise

abbrev pub handle_of : Version → ℤ
handle_of v = v.handle

abbrev nothing : Version
nothing = record { handle = pos 0; ts = 0; gone = false; cells = [] }

not_less : (a b : ℤ) → int_le a b ≡ true → is_lt (int_cmp b a) ≡ false
not_less a b e = grind (arith, ints)

sorted : (vs : List Version) → Rise vs → IsSorted int_cmp (map handle_of vs)
sorted vs rise = λ k d low lt.
    let within : k + 1 < length vs = omega (arith, lt, length-map vs handle_of) in
    let first : get_or (map handle_of vs) k d ≡ (get_or vs k nothing).handle = get_or-map handle_of vs k nothing d (omega (arith, within)) in
    let next : get_or (map handle_of vs) (k + 1) d ≡ (get_or vs (k + 1) nothing).handle = get_or-map handle_of vs (k + 1) nothing d within in
    let le = not_below (get_or vs k nothing) (get_or vs (k + 1) nothing) (rise k (k + 1) nothing (omega arith) within) in
    (λ i. is_lt (int_cmp (next i) (first i))) ∙ not_less (get_or vs k nothing).handle (get_or vs (k + 1) nothing).handle le

ties : (x y : ℤ) → int_eq x y ≡ eq_by_cmp int_cmp x y
ties x y = grind (arith, ints)

pub strictly : (vs : List Version) → Rise vs → IsStrictlySortedBy int_cmp (handles vs)
strictly vs rise = IsStrictlySortedBy-dedup int_cmp_total ties (map handle_of vs) (sorted vs rise)

-- ---- they lie in the range

all_within : (range : HandleRange) (vs : List Version) → AreWithin range vs → All (λ (h : ℤ). holds range h ≡ true) (map handle_of vs)
all_within range [] within = λ j d less. absurd (omega (arith, less))
all_within range (v ∷ vs) within = All-cons (λ (h : ℤ). holds range h ≡ true) v.handle (map handle_of vs) within.0 (all_within range vs within.1)

above : (low a b : ℤ) → int_le low a ≡ true → int_cmp a b ≡ Less → int_lt low b ≡ true
above low a b le less = grind (arith, ints)

first_part : (a b : Bool) → (a && b) ≡ true → a ≡ true
first_part true b e = refl
first_part false b e = e

at_place : {X : Type 0} (P : X → Type 0) (xs : List X) (i : ℕ) (x : X) → AllByRecursion P xs → slice_get xs i ≡ Some x → P x
at_place P [] i x all e = cc e
at_place P (y ∷ ys) zero x all e = subst P (let f : y ≡ x = cc e in f) all.0
at_place P (y ∷ ys) (suc i) x all e = at_place P ys i x all.1 e

behind_first : (range : HandleRange) (hs : List ℤ) (i : ℕ) (at : ℤ) → IsStrictlySortedBy int_cmp hs → All (λ (h : ℤ). holds range h ≡ true) hs → 0 < i → slice_get hs i ≡ Some at → IsCut range at
unfolding IsStrictlySortedBy
behind_first range [] i at strict all some e = cc e
behind_first range (h ∷ hs) zero at strict all some e = absurd (omega arith)
behind_first range (h ∷ hs) (suc i) at strict all some e =
    let lowest : int_le range.low h ≡ true = first_part (int_le range.low h) (is_below h range.high) (all 0 h (omega arith)) in
    let less : int_cmp h at ≡ Less = at_place (λ (y : ℤ). int_cmp h y ≡ Less) hs i at strict.0 e in
    let inside : suc i < length (h ∷ hs) = slice_get_within (h ∷ hs) (suc i) at e in
    let here : get_or (h ∷ hs) (suc i) at ≡ at = get_or_from_slice_get (h ∷ hs) (suc i) at at e in
    record { above = above range.low h at lowest less; within = subst (λ (x : ℤ). holds range x ≡ true) here (all (suc i) at inside) }

pub is_cut : (range : HandleRange) (vs : List Version) (i : ℕ) (at : ℤ) → Rise vs → AreWithin range vs → 0 < i → slice_get (handles vs) i ≡ Some at → IsCut range at
is_cut range vs i at rise within some e = behind_first range (handles vs) i at (strictly vs rise) (All-dedup int_eq (λ (h : ℤ). holds range h ≡ true) (map handle_of vs) (all_within range vs within)) some e

pub is_middle : (versions : List Version) (hs : List ℤ) (at : ℤ) → hs ≡ handles versions → 1 < length hs → slice_get hs (length hs / 2) ≡ Some at → IsMiddle versions at
is_middle versions hs at is many middle = record { many = subst (λ (xs : List ℤ). 1 < length xs) is many; middle = subst (λ (xs : List ℤ). slice_get xs (length xs / 2) ≡ Some at) is middle }
