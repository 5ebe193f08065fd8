-- The halves of a range, and of versions that rise.
use Rattle.std.proofs.Common.{◌≡◌, ◌∙◌, ℕ, ℤ, zero, suc, ◌+◌, ◌<◌, ◌≤◌, List, [], ◌∷◌, ◌++◌, Bool, true, false, ◌||◌, ◌&&◌, Option, Some, None, take, drop, length, slice_get, slice_range, get_or, int_le, int_lt, refl, sym, ap, subst, arith, true≢false, ◌-◌, length-drop, add-one}
use Rattle.std.specs.List.{All, AllByRecursion}
use Rattle.std.proofs.lemmas.Int.{ints}
use Rattle.std.proofs.lemmas.List.Elements.{All-head, All-tail, All-cons}
use Rattle.std.proofs.lemmas.List.Kept.{AllPairs-cons}
use Rattle.std.proofs.lemmas.List.{take-append-drop, take_all}
use Rattle.column_block.specs.declared.cell.Version.{Version}
use Rattle.column_block.specs.declared.column.Column.{Column}
use Rattle.flash_types.specs.Ranges.{holds, is_below}
use Rattle.flash_types.specs.declared.range.HandleRange.{HandleRange}
use Rattle.column_block.specs.Order.{Rise}
use Rattle.version_gc.proofs.Collections.{Pair, first_of, rest_of, not_below}
use Rattle.delta_layer.specs.Built.{AreTwo, IsSegment}
use Rattle.delta_layer.specs.Pieces.{IsStablePiece}
use Rattle.delta_layer.specs.Present.{AreWithin}
use Rattle.delta_layer.specs.declared.built.Piece.{Piece}
use Rattle.segment_split.specs.Halves.{lower, upper, IsCut, HalvesPart, AreHalves}

-- ---- the range

both : (a b : Bool) → (a && b) ≡ true → (a ≡ true) × (b ≡ true)
both true b e = (refl, e)
both false b e = absurd (true≢false (sym e))

-- below a handle that is below the end, or not below it
low_side : (a b : ℤ) (high : Option ℤ) → int_lt a b ≡ true → is_below b high ≡ true → is_below a high ≡ true
low_side a b None less below = refl
low_side a b (Some c) less below = step a b c less below
  where
    step : (a b c : ℤ) → int_lt a b ≡ true → int_lt b c ≡ true → int_lt a c ≡ true
    step a b c e f = grind (arith, ints)

not_low : (a b : ℤ) → int_lt a b ≡ false → int_le b a ≡ true
not_low a b e = grind (arith, ints)

not_high : (a b : ℤ) → int_lt a b ≡ true → int_le b a ≡ false
not_high a b e = grind (arith, ints)

up_from : (low at h : ℤ) → int_lt low at ≡ true → int_le at h ≡ true → int_le low h ≡ true
up_from low at h e f = grind (arith, ints)

pub halves : HalvesPart
halves range at h cut = by (int_lt h at) refl
  where
    end : is_below at range.high ≡ true
    end = (both (int_le range.low at) (is_below at range.high) cut.within).1

    true_right : (a : Bool) → (a && true) ≡ a
    true_right true = refl
    true_right false = refl

    false_right : (a : Bool) → (a && false) ≡ false
    false_right true = refl
    false_right false = refl

    or_false : (a : Bool) → (a || false) ≡ a
    or_false true = refl
    or_false false = refl

    Goal : (a b c d : Bool) → Type 0
    Goal a b c d = ((a && b) ≡ ((a && c) || (d && b))) × (((a && c) && (d && b)) ≡ false)

    low_goal : (a : Bool) → Goal a true true false
    low_goal true = (refl, refl)
    low_goal false = (refl, refl)

    high_goal : (b : Bool) → Goal true b false true
    high_goal b = (refl, refl)

    by : (x : Bool) → int_lt h at ≡ x → (holds range h ≡ (holds (lower at range) h || holds (upper at range) h)) × ((holds (lower at range) h && holds (upper at range) h) ≡ false)
    by true is = subst (λ (b : Bool). Goal (int_le range.low h) b (int_lt h at) (int_le at h)) (sym (low_side h at range.high is end))
        (subst (λ (c : Bool). Goal (int_le range.low h) true c (int_le at h)) (sym is) (subst (λ (d : Bool). Goal (int_le range.low h) true true d) (sym (not_high h at is)) (low_goal (int_le range.low h))))
    by false is =
        let from : int_le at h ≡ true = not_low h at is in
        subst (λ (a : Bool). Goal a (is_below h range.high) (int_lt h at) (int_le at h)) (sym (up_from range.low at h cut.above from))
        (subst (λ (c : Bool). Goal true (is_below h range.high) c (int_le at h)) (sym is) (subst (λ (d : Bool). Goal true (is_below h range.high) false d) (sym from) (high_goal (is_below h range.high))))

-- ---- a list in two parts

all_up_to : {X : Type 0} (P : X → Type 0) (xs : List X) (i : ℕ) (x : X) → slice_get xs i ≡ Some x → P x → AllByRecursion P (take i xs) → AllByRecursion P (take (suc i) xs)
all_up_to P [] i x e here all = cc e
all_up_to P (y ∷ ys) zero x e here all = (subst P (let f : x ≡ y = cc e in f) here, tt)
all_up_to P (y ∷ ys) (suc i) x e here all = (all.0, all_up_to P ys i x e here all.1)

pub all_more : {X : Type 0} (P : X → Type 0) (xs : List X) (i : ℕ) (x : X) → slice_get xs i ≡ Some x → P x → AllByRecursion P (take i xs) → AllByRecursion P (take (i + 1) xs)
all_more P xs i x e here all = rw add-one (all_up_to P xs i x e here all)

module _ (at : ℤ) where
  abbrev Below : Version → Type 0
  Below v = int_lt v.handle at ≡ true

  abbrev From : Version → Type 0
  From v = int_lt v.handle at ≡ false

  on_from : (a b : ℤ) → int_lt a at ≡ false → int_le a b ≡ true → int_lt b at ≡ false
  on_from a b e f = grind (arith, ints)

  all_from : (v : Version) (vs : List Version) → From v → All (Pair v) vs → AllByRecursion From vs
  all_from v [] from all = tt
  all_from v (w ∷ ws) from all = (on_from v.handle w.handle from (not_below v w (All-head (Pair v) w ws all)), all_from v ws from (All-tail (Pair v) w ws all))

  pub from_here : (vs : List Version) (i : ℕ) (v : Version) → Rise vs → slice_get vs i ≡ Some v → int_lt v.handle at ≡ false → AllByRecursion From (drop i vs)
  from_here [] i v rise e from = cc e
  from_here (w ∷ ws) zero v rise e from = (let f : v ≡ w = cc e in let here : From w = subst From f from in (here, all_from w ws here (first_of Pair w ws rise)))
  from_here (w ∷ ws) (suc i) v rise e from = from_here ws i v (rest_of Pair w ws rise) e from

first_all : (P : Version → Type 0) (xs ys : List Version) → All P (xs ++ ys) → All P xs
first_all P [] ys all = λ j d less. absurd (omega (arith, less))
first_all P (x ∷ xs) ys all = All-cons P x xs (All-head P x (xs ++ ys) all) (first_all P xs ys (All-tail P x (xs ++ ys) all))

rise_first : (xs ys : List Version) → Rise (xs ++ ys) → Rise xs
rise_first [] ys rise = λ i j d less low. absurd (omega (arith, low))
rise_first (x ∷ xs) ys rise = AllPairs-cons Pair x xs (first_all (Pair x) xs ys (first_of Pair x (xs ++ ys) rise)) (rise_first xs ys (rest_of Pair x (xs ++ ys) rise))

rise_second : (xs ys : List Version) → Rise (xs ++ ys) → Rise ys
rise_second [] ys rise = rise
rise_second (x ∷ xs) ys rise = rise_second xs ys (rest_of Pair x (xs ++ ys) rise)

within_first : (range : HandleRange) (xs ys : List Version) → AreWithin range (xs ++ ys) → AreWithin range xs
within_first range [] ys all = tt
within_first range (x ∷ xs) ys all = (all.0, within_first range xs ys all.1)

within_second : (range : HandleRange) (xs ys : List Version) → AreWithin range (xs ++ ys) → AreWithin range ys
within_second range [] ys all = all
within_second range (x ∷ xs) ys all = within_second range xs ys all.1

lower_holds : (range : HandleRange) (at h : ℤ) → holds range h ≡ true → int_lt h at ≡ true → holds (lower at range) h ≡ true
lower_holds range at h e less = (λ i. (both (int_le range.low h) (is_below h range.high) e).0 i && less i)

upper_holds : (range : HandleRange) (at h : ℤ) → holds range h ≡ true → int_lt h at ≡ false → holds (upper at range) h ≡ true
upper_holds range at h e from = (λ i. not_low h at from i && (both (int_le range.low h) (is_below h range.high) e).1 i)

in_lower : (range : HandleRange) (at : ℤ) (vs : List Version) → AreWithin range vs → AllByRecursion (Below at) vs → AreWithin (lower at range) vs
in_lower range at [] within below = tt
in_lower range at (v ∷ vs) within below = (lower_holds range at v.handle within.0 below.0, in_lower range at vs within.1 below.1)

in_upper : (range : HandleRange) (at : ℤ) (vs : List Version) → AreWithin range vs → AllByRecursion (From at) vs → AreWithin (upper at range) vs
in_upper range at [] within from = tt
in_upper range at (v ∷ vs) within from = (upper_holds range at v.handle within.0 from.0, in_upper range at vs within.1 from.1)

are_halves : (range : HandleRange) (at : ℤ) (versions low high : List Version) (place : ℕ) → low ≡ take place versions → high ≡ drop place versions → Rise versions → AreWithin range versions
    → AllByRecursion (λ (v : Version). int_lt v.handle at ≡ true) (take place versions) → AllByRecursion (λ (v : Version). int_lt v.handle at ≡ false) (drop place versions) → AreHalves range at versions low high
are_halves range at versions low high place is_low is_high rise within below from =
    let whole : take place versions ++ drop place versions ≡ versions = take-append-drop place versions in
    let rises : Rise (take place versions ++ drop place versions) = subst Rise (sym whole) rise in
    let inside : AreWithin range (take place versions ++ drop place versions) = subst (AreWithin range) (sym whole) within in
    record {
      together = (λ i. is_low i ++ is_high i) ∙ whole;
      low_rise = subst Rise (sym is_low) (rise_first (take place versions) (drop place versions) rises);
      high_rise = subst Rise (sym is_high) (rise_second (take place versions) (drop place versions) rises);
      low_within = subst (AreWithin (lower at range)) (sym is_low) (in_lower range at (take place versions) (within_first range (take place versions) (drop place versions) inside) below);
      high_within = subst (AreWithin (upper at range)) (sym is_high) (in_upper range at (drop place versions) (within_second range (take place versions) (drop place versions) inside) from);
    }

-- a block cut at a place by two slices
pub at_place : (range : HandleRange) (at : ℤ) (versions low high : List Version) (place len : ℕ) → len ≡ length versions → low ≡ slice_range versions 0 place → high ≡ slice_range versions place len → Rise versions → AreWithin range versions
    → AllByRecursion (λ (v : Version). int_lt v.handle at ≡ true) (take place versions) → AllByRecursion (λ (v : Version). int_lt v.handle at ≡ false) (drop place versions) → AreHalves range at versions low high
at_place range at versions low high place len is_len is_low is_high rise within below from =
    let rest : take (len - place) (drop place versions) ≡ drop place versions = take_all (len - place) (drop place versions) (omega (arith, length-drop place versions, is_len)) in
    let whole : place - 0 ≡ place = omega arith in
    are_halves range at versions low high place (is_low ∙ ap (λ n. take n versions) whole) (is_high ∙ rest) rise within below from

is_segment : (columns : List Column) (rows : ℕ) (range : HandleRange) (versions : List Version) (piece : Piece) → Rise versions → AreWithin range versions → piece.range ≡ range → piece.versions ≡ versions → IsStablePiece columns rows versions piece.bytes → IsSegment columns rows range piece
is_segment columns rows range versions piece rise within has_range has bytes = record {
  range = has_range;
  rise = subst Rise (sym has) rise;
  within = subst (AreWithin range) (sym has) within;
  bytes = subst (λ (vs : List Version). IsStablePiece columns rows vs piece.bytes) (sym has) bytes;
}

-- the pieces of the halves
pub are_segments : (columns : List Column) (rows : ℕ) (range : HandleRange) (at : ℤ) (versions low high : List Version) (first second : Piece) (pieces : List Piece) → AreHalves range at versions low high
    → first.range ≡ lower at range → first.versions ≡ low → IsStablePiece columns rows low first.bytes → second.range ≡ upper at range → second.versions ≡ high → IsStablePiece columns rows high second.bytes
    → pieces ≡ first ∷ second ∷ [] → AreTwo (λ (l u : Piece). IsSegment columns rows (lower at range) l × IsSegment columns rows (upper at range) u) pieces
are_segments columns rows range at versions low high first second pieces halves range_1 has_1 bytes_1 range_2 has_2 bytes_2 are =
    subst (AreTwo (λ (l u : Piece). IsSegment columns rows (lower at range) l × IsSegment columns rows (upper at range) u)) (sym are)
    (is_segment columns rows (lower at range) low first halves.low_rise halves.low_within range_1 has_1 bytes_1, is_segment columns rows (upper at range) high second halves.high_rise halves.high_within range_2 has_2 bytes_2)

-- they have the versions that the whole had
pub have : (P : List Version → Type 0) (range : HandleRange) (at : ℤ) (versions low high : List Version) (first second : Piece) (pieces : List Piece) → AreHalves range at versions low high → first.versions ≡ low → second.versions ≡ high
    → pieces ≡ first ∷ second ∷ [] → P versions → AreTwo (λ (l u : Piece). P (l.versions ++ u.versions)) pieces
have P range at versions low high first second pieces halves has_1 has_2 are all =
    subst (AreTwo (λ (l u : Piece). P (l.versions ++ u.versions))) (sym are) (subst P (sym halves.together ∙ (λ i. sym has_1 i ++ sym has_2 i)) all)
