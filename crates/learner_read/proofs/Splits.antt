-- What is present in a range, and what it shows, is what is below a handle and then the rest.
use Rattle.std.proofs.Common.{◌≡◌, ◌⊎◌, inl, inr, ◌∙◌, refl, sym, ap, subst, ℕ, ℤ, ◌<◌, ◌<ℤ◌, ◌≤ℤ◌, Bool, true, false, true≢false, not, nat_le, nat_lt, cond, ◌&&◌, ◌||◌, List, [], ◌∷◌, ◌++◌, Option, Some, None, filter, arith}
use Rattle.std.specs.Prelude.{int_le, int_lt}
use Rattle.std.specs.List.{AllByRecursion, list_any}
use Rattle.std.specs.Ordering.{int_eq, int_cmp, nat_cmp, ordering_then}
use Rattle.std.specs.declared.cmp.Ordering.TheVariants.{Less}
use Rattle.std.proofs.lemmas.Int.{ints}
use Rattle.std.proofs.lemmas.List.{append-nil}
use Rattle.std.proofs.lemmas.List.Elements.{filter-append}
use Rattle.column_block.specs.declared.cell.Version.{Version}
use Rattle.column_block.specs.Order.{version_cmp}
use Rattle.column_block.proofs.Ordered.{Above, Up, each_both, each_filter, each_weaker, rise_from_up, up_both, up_from_rise}
use Rattle.flash_types.specs.Ranges.{holds, is_below, part_below, part_from}
use Rattle.flash_types.specs.declared.range.HandleRange.{HandleRange}
use Rattle.flash_types.specs.declared.refusal.Cut.{Cut}
use Rattle.good_replica.specs.Changed.{had, view}
use Rattle.good_replica.specs.Trail.{DeltaFile, after_steps, after_versions, steps_on, versions_on}
use Rattle.good_replica.proofs.Facts.{int_same}
use Rattle.delta_layer.specs.Present.{ArePresent, AreWithin}
use Rattle.learner_read.specs.Parts.{AreAbove, AreBelow}
use Rattle.learner_read.specs.Rows.{is_asked, is_newer, is_shown, rows_within, shown_rows}
use Rattle.learner_read.specs.Scans.{Answers, Pass}
use Rattle.learner_read.specs.Scans.Pass.{Dropped, End, Kept}

-- ---- handles below one, and not below it

pub above_all : (bound : ℤ) (v : Version) (ys : List Version) → v.handle <ℤ bound → AreAbove bound ys → Above v ys
above_all bound v [] low above = tt
above_all bound v (w ∷ ys) low above = (ap (λ o. ordering_then o (nat_cmp v.ts w.ts)) (less v.handle w.handle bound low above.0), above_all bound v ys low above.1)
  where
    less : (a b bound : ℤ) → a <ℤ bound → bound ≤ℤ b → int_cmp a b ≡ Less
    less a b bound p q = grind (arith, ints)

cross : (bound : ℤ) (xs ys : List Version) → AreBelow bound xs → AreAbove bound ys → AllByRecursion (λ (x : Version). Above x ys) xs
cross bound [] ys below above = tt
cross bound (x ∷ xs) ys below above = (above_all bound x ys below.0 above, cross bound xs ys below.1 above)

pub up_joined : (bound : ℤ) (xs ys : List Version) → Up xs → Up ys → AreBelow bound xs → AreAbove bound ys → Up (xs ++ ys)
up_joined bound xs ys up up' below above = up_both xs ys up up' (cross bound xs ys below above)

unlike : (a b bound : ℤ) → a <ℤ bound → bound ≤ℤ b → a ≡ b → ⊥
unlike a b bound p q same = grind (arith, ints)

none_on : (h : ℤ) (vs : List Version) → AllByRecursion (λ (v : Version). v.handle ≡ h → ⊥) vs → versions_on h vs ≡ []
none_on h [] other = refl
none_on h (v ∷ vs) other = by (int_eq v.handle h) refl (none_on h vs other.1)
  where
    by : (b : Bool) → int_eq v.handle h ≡ b → versions_on h vs ≡ [] → cond b (v ∷ versions_on h vs) (versions_on h vs) ≡ []
    by true is rest = absurd (other.0 (int_same v.handle h is))
    by false is rest = rest

pub had_other : (h : ℤ) (ts : ℕ) (vs : List Version) → AllByRecursion (λ (v : Version). v.handle ≡ h → ⊥) vs → had h vs ts ≡ None
had_other h ts vs other = ap (after_versions ts None) (none_on h vs other)

on_joined : (h : ℤ) (xs ys : List Version) → versions_on h (xs ++ ys) ≡ versions_on h xs ++ versions_on h ys
on_joined h xs ys = filter-append (λ (v : Version). int_eq v.handle h) xs ys

pub had_first : (h : ℤ) (ts : ℕ) (xs ys : List Version) → AllByRecursion (λ (v : Version). v.handle ≡ h → ⊥) ys → had h (xs ++ ys) ts ≡ had h xs ts
had_first h ts xs ys other = ap (after_versions ts None) (on_joined h xs ys ∙ ap (λ vs. versions_on h xs ++ vs) (none_on h ys other) ∙ append-nil (versions_on h xs))

pub had_second : (h : ℤ) (ts : ℕ) (xs ys : List Version) → AllByRecursion (λ (v : Version). v.handle ≡ h → ⊥) xs → had h (xs ++ ys) ts ≡ had h ys ts
had_second h ts xs ys other = ap (after_versions ts None) (on_joined h xs ys ∙ ap (λ vs. vs ++ versions_on h ys) (none_on h xs other))

module _ (bound : ℤ) where
  others_above : (h : ℤ) (ys : List Version) → h <ℤ bound → AreAbove bound ys → AllByRecursion (λ (v : Version). v.handle ≡ h → ⊥) ys
  others_above h ys low above = each_weaker (λ (v : Version). bound ≤ℤ v.handle) (λ (v : Version). v.handle ≡ h → ⊥) (λ v le same. unlike h v.handle bound low le (sym same)) ys above

  others_below : (h : ℤ) (xs : List Version) → bound ≤ℤ h → AreBelow bound xs → AllByRecursion (λ (v : Version). v.handle ≡ h → ⊥) xs
  others_below h xs high below = each_weaker (λ (v : Version). v.handle <ℤ bound) (λ (v : Version). v.handle ≡ h → ⊥) (λ v less same. unlike v.handle h bound less high same) xs below

-- ---- ranges

pub both : (a b : Bool) → (a && b) ≡ true → (a ≡ true) × (b ≡ true)
both true b e = (refl, e)
both false b e = absurd (true≢false (sym e))

pub and : (a b : Bool) → a ≡ true → b ≡ true → (a && b) ≡ true
and true b e f = f
and false b e f = absurd (true≢false (sym e))

is_less : (a b : ℤ) → int_lt a b ≡ true → a <ℤ b
is_less a b e = grind (arith, ints)

is_most : (a b : ℤ) → int_le a b ≡ true → a ≤ℤ b
is_most a b e = grind (arith, ints)

through : (a b c : ℤ) → int_lt a b ≡ true → int_le b c ≡ true → int_le a c ≡ true
through a b c e f = grind (arith, ints)

either : (a b : ℤ) → (a <ℤ b) ⊎ (b ≤ℤ a)
either a b = by (int_lt a b) refl
  where
    most : (a b : ℤ) → int_lt a b ≡ false → b ≤ℤ a
    most a b e = grind (arith, ints)

    by : (c : Bool) → int_lt a b ≡ c → (a <ℤ b) ⊎ (b ≤ℤ a)
    by true is = inl (is_less a b is)
    by false is = inr (most a b is)

-- ---- present versions

-- The range reaches from below a handle to above it, or to it.
pub record Cuts (range : HandleRange) (bound : ℤ) : Type 0 where
  pub low : int_lt range.low bound ≡ true
  pub high : (h : ℤ) → h <ℤ bound → is_below h range.high ≡ true

module _ (range : HandleRange) (bound : ℤ) (cuts : Cuts range bound) where
  below_holds : (h : ℤ) → holds (part_below range bound) h ≡ true → holds range h ≡ true
  below_holds h e =
      let p = both (int_le range.low h) (int_lt h bound) e in
      and (int_le range.low h) (is_below h range.high) p.0 (cuts.high h (is_less h bound p.1))

  from_holds : (h : ℤ) → holds (part_from range bound) h ≡ true → holds range h ≡ true
  from_holds h e =
      let p = both (int_le bound h) (is_below h range.high) e in
      and (int_le range.low h) (is_below h range.high) (through range.low bound h cuts.low p.0) p.1

  pub within_below : (vs : List Version) → AreWithin (part_below range bound) vs → AreBelow bound vs
  within_below vs within = each_weaker (λ (v : Version). holds (part_below range bound) v.handle ≡ true) (λ (v : Version). v.handle <ℤ bound) (λ v e. is_less v.handle bound (both (int_le range.low v.handle) (int_lt v.handle bound) e).1) vs within

  pub within_above : (vs : List Version) → AreWithin (part_from range bound) vs → AreAbove bound vs
  within_above vs within = each_weaker (λ (v : Version). holds (part_from range bound) v.handle ≡ true) (λ (v : Version). bound ≤ℤ v.handle) (λ v e. is_most bound v.handle (both (int_le bound v.handle) (is_below v.handle range.high) e).0) vs within

  less_is : (a b : ℤ) → a <ℤ b → int_lt a b ≡ true
  less_is a b e = grind (arith, ints)

  most_is : (a b : ℤ) → a ≤ℤ b → int_le a b ≡ true
  most_is a b e = grind (arith, ints)

  pub present_joined : (here stable some others : List Version) (files : List DeltaFile) → AreBelow bound here → AreAbove bound stable →
      ArePresent (part_below range bound) here files some → ArePresent (part_from range bound) stable files others → ArePresent range (here ++ stable) files (some ++ others)
  present_joined here stable some others files below above first second = record {
    rise = rise_from_up (some ++ others) (up_joined bound some others (up_from_rise some first.rise) (up_from_rise others second.rise) (within_below some first.within) (within_above others second.within));
    within = each_both (λ (v : Version). holds range v.handle ≡ true) some others
        (each_weaker (λ (v : Version). holds (part_below range bound) v.handle ≡ true) (λ (v : Version). holds range v.handle ≡ true) (λ v e. below_holds v.handle e) some first.within)
        (each_weaker (λ (v : Version). holds (part_from range bound) v.handle ≡ true) (λ (v : Version). holds range v.handle ≡ true) (λ v e. from_holds v.handle e) others second.within);
    here = λ h ts held. elim (either h bound) [
      | inl low ↦ had_first h ts some others (others_above bound h others low (within_above others second.within))
          ∙ first.here h ts (and (int_le range.low h) (int_lt h bound) (both (int_le range.low h) (is_below h range.high) held).0 (less_is h bound low))
          ∙ ap (λ o. after_steps ts o (steps_on h files)) (sym (had_first h ts here stable (others_above bound h stable low above)))
      | inr high ↦ had_second h ts some others (others_below bound h some high (within_below some first.within))
          ∙ second.here h ts (and (int_le bound h) (is_below h range.high) (most_is bound h high) (both (int_le range.low h) (is_below h range.high) held).1)
          ∙ ap (λ o. after_steps ts o (steps_on h files)) (sym (had_second h ts here stable (others_below bound h here high below)))
    ];
  }

-- ---- rows

any_joined : (p : Version → Bool) (xs ys : List Version) → list_any p (xs ++ ys) ≡ (list_any p xs || list_any p ys)
any_joined p [] ys = refl
any_joined p (x ∷ xs) ys = elim (p x) as (λ b. (b || list_any p (xs ++ ys)) ≡ ((b || list_any p xs) || list_any p ys)) [ true ↦ refl | false ↦ any_joined p xs ys ]

or_none : (b : Bool) → (b || false) ≡ b
or_none true = refl
or_none false = refl

filter_same : (p q : Version → Bool) (P : Version → Type 0) → ((v : Version) → P v → p v ≡ q v) → (vs : List Version) → AllByRecursion P vs → filter p vs ≡ filter q vs
filter_same p q P same [] all = refl
filter_same p q P same (v ∷ vs) all = λ i. cond (same v all.0 i) (v ∷ filter_same p q P same vs all.1 i) (filter_same p q P same vs all.1 i)

module _ (ts : ℕ) where
  none_newer : (v : Version) (ws : List Version) → AllByRecursion (λ (w : Version). w.handle ≡ v.handle → ⊥) ws → list_any (is_newer ts v) ws ≡ false
  none_newer v [] other = refl
  none_newer v (w ∷ ws) other = by (int_eq w.handle v.handle) refl (none_newer v ws other.1)
    where
      by : (b : Bool) → int_eq w.handle v.handle ≡ b → list_any (is_newer ts v) ws ≡ false → ((b && (nat_lt v.ts w.ts && nat_le w.ts ts)) || list_any (is_newer ts v) ws) ≡ false
      by true is rest = absurd (other.0 (int_same w.handle v.handle is))
      by false is rest = rest

  pub shown_joined : (bound : ℤ) (xs ys : List Version) → AreBelow bound xs → AreAbove bound ys → shown_rows ts (xs ++ ys) ≡ shown_rows ts xs ++ shown_rows ts ys
  shown_joined bound xs ys below above =
      filter-append (is_shown ts (xs ++ ys)) xs ys
      ∙ (λ i. filter_same (is_shown ts (xs ++ ys)) (is_shown ts xs) (λ (v : Version). v.handle <ℤ bound) first xs below i ++ filter_same (is_shown ts (xs ++ ys)) (is_shown ts ys) (λ (v : Version). bound ≤ℤ v.handle) second ys above i)
    where
      first : (v : Version) → v.handle <ℤ bound → is_shown ts (xs ++ ys) v ≡ is_shown ts xs v
      first v low = ap (λ b. nat_le v.ts ts && (not v.gone && not b)) (any_joined (is_newer ts v) xs ys ∙ ap (λ b. list_any (is_newer ts v) xs || b) (none_newer v ys (others_above bound v.handle ys low above)) ∙ or_none (list_any (is_newer ts v) xs))

      second : (v : Version) → bound ≤ℤ v.handle → is_shown ts (xs ++ ys) v ≡ is_shown ts ys v
      second v high = ap (λ b. nat_le v.ts ts && (not v.gone && not b)) (any_joined (is_newer ts v) xs ys ∙ ap (λ b. b || list_any (is_newer ts v) ys) (none_newer v xs (others_below bound v.handle xs high below)))

  pub rows_joined : (clip : HandleRange) (asked : List Cut) (bound : ℤ) (xs ys : List Version) → AreBelow bound xs → AreAbove bound ys →
      rows_within clip asked (shown_rows ts (xs ++ ys)) ≡ rows_within clip asked (shown_rows ts xs) ++ rows_within clip asked (shown_rows ts ys)
  rows_joined clip asked bound xs ys below above = ap (rows_within clip asked) (shown_joined bound xs ys below above) ∙ filter-append (λ (v : Version). is_asked clip asked v.handle) (shown_rows ts xs) (shown_rows ts ys)

pub pass_joined : (test : Answers) (xs ys some others : List Version) → Pass test xs some → Pass test ys others → Pass test (xs ++ ys) (some ++ others)
pass_joined test _ ys _ others End second = second
pass_joined test _ ys _ others (Kept v vs passed is first) second = Kept v (vs ++ ys) (passed ++ others) is (pass_joined test vs ys passed others first second)
pass_joined test _ ys _ others (Dropped v vs passed is first) second = Dropped v (vs ++ ys) (passed ++ others) is (pass_joined test vs ys passed others first second)
