-- The least handle of a range that a region has, by the regions' low ends: only the last that isn't above the range's own and the first that is above it count, since no two regions share a handle.
use Rattle.std.proofs.Common.{◌≡◌, ◌⊎◌, inl, inr, ◌∙◌, refl, sym, ap, subst, ℕ, ℤ, Bool, true, false, true≢false, cond, ◌&&◌, List, [], ◌∷◌, Option, Some, None, IsSome, unwrap_or, int_le, int_lt, arith, fold, map, option_and_then}
use Rattle.std.proofs.lemmas.Int.{ints}
use Rattle.std.proofs.lemmas.Cmp.{eq_by_cmp_equiv}
use Rattle.std.proofs.lemmas.List.Elements.{All-head, All-tail, All-map}
use Rattle.std.proofs.lemmas.Map.Keys.{IsDistinct-from_sorted}
use Rattle.std.proofs.lemmas.Map.Views.{All-values_from_lookup}
use Rattle.std.specs.Cmp.{nat_cmp_total}
use Rattle.std.specs.List.{All}
use Rattle.std.specs.Map.{lookup, keys_of, values_of}
use Rattle.std.specs.Option.{IfSome}
use Rattle.std.specs.Ordering.{nat_cmp, int_eq, eq_by_cmp}
use Rattle.std.specs.Prelude.{◌==◌}
use Rattle.flash_types.specs.Ranges.{holds, is_below}
use Rattle.flash_types.specs.declared.range.HandleRange.{HandleRange}
use Rattle.committed_log.specs.Admission.{lesser, least_common, least_taken, taken_by}
use Rattle.committed_log.specs.Laws.{owns}
use Rattle.committed_log.specs.Lows.{AreParted, AreLows, IsLastBelow, IsFirstAbove, names}
use Rattle.committed_log.specs.Owned.{RangeIsFilled}
use Rattle.committed_log.specs.Regions.{Region, Unborn, region, range_of}
use Rattle.committed_log.proofs.Faults.{both_true}

-- ---- the least of some handles

abbrev IsAtLeast : ℤ → Option ℤ → Type 0
IsAtLeast l o = elim o [ None ↦ Unit {0} | Some h ↦ int_le l h ≡ true ]

same_int : (g h : ℤ) → int_le g h ≡ true → int_le h g ≡ true → g ≡ h
same_int g h a b = grind (arith, ints)

lesser_stays : (l : ℤ) (o : Option ℤ) → IsAtLeast l o → lesser (Some l) o ≡ Some l
lesser_stays l None a = refl
lesser_stays l (Some h) a = ap (λ b. cond b (Some l) (Some h)) a

lesser_comes : (l : ℤ) (o : Option ℤ) → IsAtLeast l o → lesser o (Some l) ≡ Some l
lesser_comes l None a = refl
lesser_comes l (Some h) a = by (int_le h l) refl
  where
    by : (b : Bool) → int_le h l ≡ b → cond b (Some h) (Some l) ≡ Some l
    by true e = ap (λ x. Some x) (sym (same_int l h a e))
    by false e = refl

lesser_least : (l : ℤ) (o p : Option ℤ) → IsAtLeast l o → IsAtLeast l p → IsAtLeast l (lesser o p)
lesser_least l None p a b = b
lesser_least l (Some g) None a b = a
lesser_least l (Some g) (Some h) a b = elim (int_le g h) as (λ c. IsAtLeast l (cond c (Some g) (Some h))) [ true ↦ a | false ↦ b ]

fold_stays : (l : ℤ) (os : List (Option ℤ)) → All (IsAtLeast l) os → fold lesser (Some l) os ≡ Some l
fold_stays l [] all = refl
fold_stays l (o ∷ os) all = ap (λ a. fold lesser a os) (lesser_stays l o (All-head (IsAtLeast l) o os all)) ∙ fold_stays l os (All-tail (IsAtLeast l) o os all)

abbrev Has : Option ℤ → List (Option ℤ) → Type 0
Has x [] = ⊥
Has x (o ∷ os) = (o ≡ x) ⊎ Has x os

fold_least : (l : ℤ) (a : Option ℤ) (os : List (Option ℤ)) → IsAtLeast l a → All (IsAtLeast l) os → Has (Some l) os → fold lesser a os ≡ Some l
fold_least l a [] low all has = absurd has
fold_least l a (o ∷ os) low all (inl is) = ap (λ p. fold lesser (lesser a p) os) is ∙ ap (λ p. fold lesser p os) (lesser_comes l a low) ∙ fold_stays l os (All-tail (IsAtLeast l) o os all)
fold_least l a (o ∷ os) low all (inr has) = fold_least l (lesser a o) os (lesser_least l a o low (All-head (IsAtLeast l) o os all)) (All-tail (IsAtLeast l) o os all) has

fold_none : (os : List (Option ℤ)) → All (λ o. o ≡ None) os → fold lesser None os ≡ None
fold_none [] all = refl
fold_none (o ∷ os) all = ap (λ p. fold lesser (lesser None p) os) (All-head (λ o. o ≡ None) o os all) ∙ fold_none os (All-tail (λ o. o ≡ None) o os all)

-- ---- over the regions

has_value : (f : Region → Option ℤ) (l : ℤ) → f Unborn ≡ None → (test : ℕ → Bool) (es : List (ℕ × Region)) → f (unwrap_or (lookup test es) Unborn) ≡ Some l → Has (Some l) (map f (values_of es))
has_value f l none test [] is = cc (sym none ∙ is)
has_value f l none test (e ∷ es) is =
    elim (test e.0) as (λ b. f (unwrap_or (cond b (Some e.1) (lookup test es)) Unborn) ≡ Some l → Has (Some l) (f e.1 ∷ map f (values_of es))) [
      | true ↦ λ is. inl is
      | false ↦ λ is. inr (has_value f l none test es is)
    ] is

module _ (regions : List (ℕ × Region)) (parted : AreParted regions) where
  each : (P : Region → Type 0) → ((r : ℕ) → P (region regions r)) → All P (values_of regions)
  each P all = All-values_from_lookup (eq_by_cmp_equiv nat_cmp_total) P regions (IsDistinct-from_sorted nat_cmp (keys_of regions) parted.ordered) (λ q. here (lookup (eq_by_cmp nat_cmp q) regions) (all q))
    where
      here : (o : Option Region) → P (unwrap_or o Unborn) → IfSome o P
      here None p = tt
      here (Some s) p = p

  least_is : (range : HandleRange) (l : ℤ) (r : ℕ) → taken_by range (region regions r) ≡ Some l → ((q : ℕ) → IsAtLeast l (taken_by range (region regions q))) → least_taken range (values_of regions) ≡ Some l
  least_is range l r is all = fold_least l None (map (taken_by range) (values_of regions)) tt (All-map (IsAtLeast l) (taken_by range) (values_of regions) (each (λ s. IsAtLeast l (taken_by range s)) all)) (has_value (taken_by range) l refl _ regions is)

  none_is : (range : HandleRange) → ((q : ℕ) → taken_by range (region regions q) ≡ None) → least_taken range (values_of regions) ≡ None
  none_is range all = fold_none (map (taken_by range) (values_of regions)) (All-map (λ o. o ≡ None) (taken_by range) (values_of regions) (each (λ s. taken_by range s ≡ None) all))

-- ---- what a region has of a range

both : (x y : Bool) → x ≡ true → y ≡ true → (x && y) ≡ true
both x y a b = ap (λ z. z && y) a ∙ b

int_itself : (l : ℤ) → int_le l l ≡ true
int_itself l = grind (arith, ints)

common_is : (a b : HandleRange) (l : ℤ) → cond (int_le a.low b.low) b.low a.low ≡ l → holds a l ≡ true → holds b l ≡ true → least_common a b ≡ Some l
common_is a b l is x y = ap (λ low. cond (holds a low && holds b low) (Some low) None) is ∙ ap (λ c. cond c (Some l) None) (both (holds a l) (holds b l) x y)

low_held : (range : HandleRange) → is_below range.low range.high ≡ true → holds range range.low ≡ true
low_held range filled = both (int_le range.low range.low) (is_below range.low range.high) (int_itself range.low) filled

-- a range's own low end
common_low : (a b : HandleRange) → is_below a.low a.high ≡ true → holds b a.low ≡ true → least_common a b ≡ Some a.low
common_low a b filled held = common_is a b a.low (by (int_le a.low b.low) refl) (low_held a filled) held
  where
    by : (c : Bool) → int_le a.low b.low ≡ c → cond c b.low a.low ≡ a.low
    by true e = same_int b.low a.low (both_true (int_le b.low a.low) (is_below a.low b.high) held).0 e
    by false e = refl

-- the low end of the other
common_above : (a b : HandleRange) → int_lt a.low b.low ≡ true → is_below b.low a.high ≡ true → is_below b.low b.high ≡ true → least_common a b ≡ Some b.low
common_above a b above below filled = common_is a b b.low (ap (λ c. cond c b.low a.low) (lt_le a.low b.low above)) (both (int_le a.low b.low) (is_below b.low a.high) (lt_le a.low b.low above) below) (low_held b filled)
  where
    lt_le : (x y : ℤ) → int_lt x y ≡ true → int_le x y ≡ true
    lt_le x y e = grind (arith, ints)

-- and no other
abbrev Takes : HandleRange → ℤ → HandleRange → Type 0
Takes a g b = ((g ≡ a.low) × (holds b a.low ≡ true)) ⊎ ((g ≡ b.low) × (int_lt a.low b.low ≡ true) × (is_below b.low a.high ≡ true))

common_takes : (a b : HandleRange) (g : ℤ) → least_common a b ≡ Some g → Takes a g b
common_takes a b g = by (int_le a.low b.low) refl
  where
    held : (x y : Bool) (l : ℤ) → cond (x && y) (Some l) None ≡ Some g → (x ≡ true) × (y ≡ true) × (l ≡ g)
    held true true l e = (refl, refl, cc e)
    held true false l e = cc e
    held false y l e = cc e

    above_or : int_le a.low b.low ≡ true → (int_lt a.low b.low ≡ true) ⊎ (a.low ≡ b.low)
    above_or e = or (int_lt a.low b.low) refl
      where
        or : (c : Bool) → int_lt a.low b.low ≡ c → (int_lt a.low b.low ≡ true) ⊎ (a.low ≡ b.low)
        or true lt = inl lt
        or false lt = inr (same_int a.low b.low e (turned a.low b.low lt))
          where
            turned : (x y : ℤ) → int_lt x y ≡ false → int_le y x ≡ true
            turned x y e = grind (arith, ints)

    by : (c : Bool) → int_le a.low b.low ≡ c → cond (holds a (cond c b.low a.low) && holds b (cond c b.low a.low)) (Some (cond c b.low a.low)) None ≡ Some g → Takes a g b
    by true le e =
        let is = held (holds a b.low) (holds b b.low) b.low e in
        elim (above_or le) [ inl lt ↦ inr (sym is.2, lt, (both_true (int_le a.low b.low) (is_below b.low a.high) is.0).1) | inr same ↦ inl (sym is.2 ∙ sym same, ap (holds b) same ∙ is.1) ]
    by false le e = let is = held (holds a a.low) (holds b a.low) a.low e in inl (sym is.2, is.1)

-- ---- by the low ends

not_none : (o : Option ℕ) → o ≡ None → IsSome o → ⊥
not_none None is some = cc some
not_none (Some x) is some = cc is

module _ (regions : List (ℕ × Region)) (parted : AreParted regions) (low : ℤ → Option ℕ) (lows : AreLows low regions) where
  -- a region that is there is named at its low end
  named : (r : ℕ) (range : HandleRange) → range_of (region regions r) ≡ Some range → IsSome (low range.low)
  named r range is = by (low range.low) (lows range.low r ∙ ap (λ (o : Option HandleRange). elim o [ None ↦ false | Some x ↦ int_eq x.low range.low ]) is ∙ equal range.low)
    where
      equal : (h : ℤ) → int_eq h h ≡ true
      equal h = grind (arith, ints)

      by : (o : Option ℕ) → names o r ≡ true → IsSome o
      by None e = absurd (true≢false (sym e))
      by (Some x) e = refl

  -- what is named begins there
  abbrev Begins : ℤ → ℕ → Type 0
  Begins h r = (range : HandleRange) × (range_of (region regions r) ≡ Some range) × (range.low ≡ h) × (holds range h ≡ true)

  begun : (h : ℤ) (r : ℕ) → low h ≡ Some r → Begins h r
  begun h r is = by (range_of (region regions r)) refl (sym (lows h r) ∙ ap (λ o. names o r) is ∙ equal r)
    where
      equal : (r : ℕ) → (r == r) ≡ true
      equal r = grind arith

      by : (o : Option HandleRange) → range_of (region regions r) ≡ o → (elim o [ None ↦ false | Some x ↦ int_eq x.low h ]) ≡ true → Begins h r
      by None is e = absurd (true≢false (sym e))
      by (Some range) is e = (range, is, same, ap (holds range) (sym same) ∙ low_held range (filled is))
        where
          same : range.low ≡ h
          same = grind (arith, ints)

          filled : range_of (region regions r) ≡ Some range → is_below range.low range.high ≡ true
          filled is = subst RangeIsFilled is (parted.filled r)

  owns_of : (r : ℕ) (range : HandleRange) (h : ℤ) → range_of (region regions r) ≡ Some range → holds range h ≡ true → owns regions r h ≡ true
  owns_of r range h is held = ap (λ (o : Option HandleRange). elim o [ None ↦ false | Some x ↦ holds x h ]) is ∙ held

  -- whose a handle is
  range_there : (r : ℕ) (h : ℤ) → owns regions r h ≡ true → (range : HandleRange) × (range_of (region regions r) ≡ Some range) × (holds range h ≡ true)
  range_there r h own = by (range_of (region regions r)) refl own
    where
      by : (o : Option HandleRange) → range_of (region regions r) ≡ o → (elim o [ None ↦ false | Some x ↦ holds x h ]) ≡ true → (range : HandleRange) × (range_of (region regions r) ≡ Some range) × (holds range h ≡ true)
      by None is e = absurd (true≢false (sym e))
      by (Some range) is e = (range, is, e)

  pub owner_is : (handle h : ℤ) (id : ℕ) → IsLastBelow low handle h id → (r : ℕ) → owns regions r handle ≡ true → r ≡ id
  owner_is handle h id last r own =
      let there = range_there r handle own in
      let begins = begun h id last.there in
      parted.disjoint.one r id h
      (owns_of r there.0 h there.1 (between there.0 (last.last there.0.low (both_true (int_le there.0.low handle) (is_below handle there.0.high) there.2).0 (named r there.0 there.1)) there.2))
      (owns_of id begins.0 h begins.1 begins.3)
    where
      down : (h : ℤ) (high : Option ℤ) → int_le h handle ≡ true → is_below handle high ≡ true → is_below h high ≡ true
      down h None le e = refl
      down h (Some high) le e = grind (arith, ints)

      between : (range : HandleRange) → int_le range.low h ≡ true → holds range handle ≡ true → holds range h ≡ true
      between range le held = both (int_le range.low h) (is_below h range.high) le (down h range.high last.below (both_true (int_le range.low handle) (is_below handle range.high) held).1)

  -- where that one hasn't the handle
  pub none_owns : (handle h : ℤ) (id : ℕ) → IsLastBelow low handle h id → owns regions id handle ≡ false → (r : ℕ) → owns regions r handle ≡ false
  none_owns handle h id last out r = by (owns regions r handle) refl
    where
      by : (b : Bool) → owns regions r handle ≡ b → owns regions r handle ≡ false
      by false e = e
      by true e = ap (λ z. owns regions z handle) (owner_is handle h id last r e) ∙ out

  pub no_owner : (handle : ℤ) → ((h : ℤ) → int_le h handle ≡ true → low h ≡ None) → (r : ℕ) → owns regions r handle ≡ false
  no_owner handle none r = by (owns regions r handle) refl
    where
      by : (b : Bool) → owns regions r handle ≡ b → owns regions r handle ≡ false
      by false e = e
      by true e = let there = range_there r handle e in
          absurd (not_none (low there.0.low) (none there.0.low (both_true (int_le there.0.low handle) (is_below handle there.0.high) there.2).0) (named r there.0 there.1))

  module _ (range : HandleRange) (filled : is_below range.low range.high ≡ true) where
    -- what a region takes of the range
    abbrev TakesIn : ℕ → ℤ → Type 0
    TakesIn r g = (other : HandleRange) × (range_of (region regions r) ≡ Some other) × Takes range g other

    takes : (r : ℕ) (g : ℤ) → taken_by range (region regions r) ≡ Some g → TakesIn r g
    takes r g = by (range_of (region regions r)) refl
      where
        by : (o : Option HandleRange) → range_of (region regions r) ≡ o → option_and_then (least_common range) o ≡ Some g → TakesIn r g
        by None is e = cc e
        by (Some other) is e = (other, is, common_takes range other g e)

    each_taken : (P : Option ℤ → Type 0) (r : ℕ) → P None → ((g : ℤ) → TakesIn r g → P (Some g)) → P (taken_by range (region regions r))
    each_taken P r none some = by (taken_by range (region regions r)) refl
      where
        by : (o : Option ℤ) → taken_by range (region regions r) ≡ o → P o
        by None is = none
        by (Some g) is = some g (takes r g is)

    -- the range's own low end is taken
    pub taken_at_low : (r : ℕ) → owns regions r range.low ≡ true → least_taken range (values_of regions) ≡ Some range.low
    taken_at_low r own =
        let there = range_there r range.low own in
        least_is regions parted range range.low r (ap (option_and_then (least_common range)) there.1 ∙ common_low range there.0 filled there.2)
        (λ q. each_taken (IsAtLeast range.low) q tt (λ g in'. elim in'.2 [ inl a ↦ subst (λ x. int_le range.low x ≡ true) (sym a.0) (int_itself range.low) | inr b ↦ subst (λ x. int_le range.low x ≡ true) (sym b.0) (lt_le range.low in'.0.low b.1) ]))
      where
        lt_le : (x y : ℤ) → int_lt x y ≡ true → int_le x y ≡ true
        lt_le x y e = grind (arith, ints)

    module _ (free : (r : ℕ) → owns regions r range.low ≡ false) where
      not_low : (r : ℕ) (other : HandleRange) → range_of (region regions r) ≡ Some other → holds other range.low ≡ true → ⊥
      not_low r other is held = true≢false (sym (owns_of r other range.low is held) ∙ free r)

      -- the first low end above it is
      pub taken_above : (l : ℤ) → IsFirstAbove low range.low l → is_below l range.high ≡ true → least_taken range (values_of regions) ≡ Some l
      taken_above l first below = by (low l) refl first.there
        where
          by : (o : Option ℕ) → low l ≡ o → IsSome o → least_taken range (values_of regions) ≡ Some l
          by None is some = absurd (cc some)
          by (Some r) is some =
              let begins = begun l r is in
              least_is regions parted range l r
              (ap (option_and_then (least_common range)) begins.1 ∙ common_above range begins.0 (subst (λ x. int_lt range.low x ≡ true) (sym begins.2) first.above) (subst (λ x. is_below x range.high ≡ true) (sym begins.2) below) (subst (λ x. is_below x begins.0.high ≡ true) (sym begins.2) (both_true (int_le begins.0.low l) (is_below l begins.0.high) begins.3).1) ∙ ap (λ x. Some x) begins.2)
              (λ q. each_taken (IsAtLeast l) q tt (λ g in'. elim in'.2 [ inl a ↦ absurd (not_low q in'.0 in'.1 a.1) | inr b ↦ subst (λ x. int_le l x ≡ true) (sym b.0) (first.first in'.0.low b.1 (named q in'.0 in'.1)) ]))

      -- nothing is
      pub none_taken : ((h : ℤ) → int_lt range.low h ≡ true → is_below h range.high ≡ true → low h ≡ None) → least_taken range (values_of regions) ≡ None
      none_taken none = none_is regions parted range (λ q. each_taken (λ o. o ≡ None) q refl (λ g in'. elim in'.2 [ inl a ↦ absurd (not_low q in'.0 in'.1 a.1) | inr b ↦ absurd (not_none (low in'.0.low) (none in'.0.low b.1 b.2) (named q in'.0 in'.1)) ]))

      pub none_behind : (l : ℤ) → IsFirstAbove low range.low l → is_below l range.high ≡ false → least_taken range (values_of regions) ≡ None
      none_behind l first past = none_taken (λ h above below. by (low h) h refl above below)
        where
          clash : (h : ℤ) (high : Option ℤ) → is_below l high ≡ false → is_below h high ≡ true → int_le l h ≡ true → ⊥
          clash h None p b le = true≢false p
          clash h (Some high) p b le = grind (arith, ints)

          by : (o : Option ℕ) → (h : ℤ) → low h ≡ o → int_lt range.low h ≡ true → is_below h range.high ≡ true → low h ≡ None
          by None h is above below = is
          by (Some r) h is above below = absurd (clash h range.high past below (first.first h above (subst (λ (o : Option ℕ). IsSome o) (sym is) refl)))
