-- No handle lies in two regions: a region that is born where no other has a handle, and one that takes another's handles.
use Rattle.std.proofs.Common.{◌≡◌, ◌≢◌, ◌∙◌, refl, sym, ap, ℕ, ℤ, Bool, true, false, cond, ◌&&◌, ◌||◌, List, [], ◌∷◌, Option, Some, None, unwrap_or, int_le, int_lt, arith, nat_eq, fold, map, option_and_then, true≢false}
use Rattle.std.proofs.lemmas.Int.{ints}
use Rattle.std.proofs.lemmas.Bool.Decides.{nat_tests}
use Rattle.std.specs.Ordering.{int_eq}
use Rattle.std.specs.Map.{lookup, values_of}
use Rattle.flash_types.specs.Ranges.{holds, is_below}
use Rattle.flash_types.specs.declared.range.HandleRange.{HandleRange}
use Rattle.committed_log.specs.declared.region.Descriptor.{Descriptor}
use Rattle.committed_log.specs.Admission.{lesser, least_taken, least_common, taken_by, touch}
use Rattle.committed_log.specs.Regions.{Region, Unborn, Live, Prepared, Gone, region, with_region, range_of, joined, ends_at, merged}
use Rattle.committed_log.specs.Laws.{owned, owns, AreDisjoint}
use Rattle.committed_log.proofs.Disjoint.{region-with_region, disjoint_from}
use Rattle.committed_log.proofs.Faults.{both_true}

abbrev pub AreNone : List (Option ℤ) → Type 0
AreNone [] = Unit {0}
AreNone (o ∷ os) = (o ≡ None) × AreNone os

lesser_none : (a b : Option ℤ) → lesser a b ≡ None → (a ≡ None) × (b ≡ None)
lesser_none None b e = (refl, e)
lesser_none (Some g) None e = cc
lesser_none (Some g) (Some h) e = elim (int_le g h) as (λ b. cond b (Some g) (Some h) ≡ None → (Some g ≡ None) × (Some h ≡ None)) [ true ↦ λ e. cc | false ↦ λ e. cc ] e

fold_none : (o : Option ℤ) (os : List (Option ℤ)) → fold lesser o os ≡ None → (o ≡ None) × AreNone os
fold_none o [] e = (e, tt)
fold_none o (x ∷ os) e = let rest = fold_none (lesser o x) os e in let both = lesser_none o x rest.0 in (both.0, (both.1, rest.1))

below_down : (l h : ℤ) (high : Option ℤ) → int_le l h ≡ true → is_below h high ≡ true → is_below l high ≡ true
below_down l h None le e = refl
below_down l h (Some high) le e = grind (arith, ints)

holds_low : (range : HandleRange) (l h : ℤ) → int_le range.low l ≡ true → int_le l h ≡ true → holds range h ≡ true → holds range l ≡ true
holds_low range l h above under e = ap (λ b. b && is_below l range.high) above ∙ below_down l h range.high under (both_true _ _ e).1

no_low : (x y : Bool) (l : ℤ) → x ≡ true → y ≡ true → cond (x && y) (Some l) None ≡ None → ⊥
no_low true true l a b e = absurd (cc)
no_low true false l a b e = true≢false (sym b)
no_low false y l a b e = true≢false (sym a)

itself : (l : ℤ) → int_le l l ≡ true
itself l = grind (arith, ints)

turned : (a b : ℤ) → int_le a b ≡ false → int_le b a ≡ true
turned a b e = grind (arith, ints)

nothing_common : (a b : HandleRange) → least_common a b ≡ None → (h : ℤ) → holds a h ≡ true → holds b h ≡ true → ⊥
nothing_common a b e h p q =
    elim (int_le a.low b.low) as (λ t. int_le a.low b.low ≡ t → cond (holds a (cond t b.low a.low) && holds b (cond t b.low a.low)) (Some (cond t b.low a.low)) None ≡ None → ⊥) [
      | true ↦ λ le. no_low (holds a b.low) (holds b b.low) b.low (holds_low a b.low h le (both_true _ _ q).0 p) (holds_low b b.low h (itself b.low) (both_true _ _ q).0 q)
      | false ↦ λ gt. no_low (holds a a.low) (holds b a.low) a.low (holds_low a a.low h (itself a.low) (both_true _ _ p).0 p) (holds_low b a.low h (turned a.low b.low gt) (both_true _ _ p).0 q)
    ] refl e

untaken : (range : HandleRange) (st : Region) (h : ℤ) → taken_by range st ≡ None → owned st h ≡ true → holds range h ≡ true → ⊥
untaken range st h none own in_range = there (range_of st) none own
  where
    there : (o : Option HandleRange) → option_and_then (least_common range) o ≡ None → (elim o [ None ↦ false | Some other ↦ holds other h ]) ≡ true → ⊥
    there None none own = true≢false (sym own)
    there (Some other) none own = nothing_common range other none h in_range own

untaken_all : (range : HandleRange) (test : ℕ → Bool) (es : List (ℕ × Region)) → AreNone (map (taken_by range) (values_of es)) → (h : ℤ) → owned (unwrap_or (lookup test es) Unborn) h ≡ true → holds range h ≡ true → ⊥
untaken_all range test [] none h own in_range = true≢false (sym own)
untaken_all range test (e ∷ es) none h own in_range =
    elim (test e.0) as (λ b. owned (unwrap_or (cond b (Some e.1) (lookup test es)) Unborn) h ≡ true → ⊥) [
      | true ↦ λ own. untaken range e.1 h none.0 own in_range
      | false ↦ λ own. untaken_all range test es none.1 h own in_range
    ] own

-- a range of which no region has a handle
pub unowned : (range : HandleRange) (regions : List (ℕ × Region)) → least_taken range (values_of regions) ≡ None → (q : ℕ) (h : ℤ) → owns regions q h ≡ true → holds range h ≡ true → ⊥
unowned range regions none q h own in_range = untaken_all range _ regions (fold_none None _ none).1 h own in_range

born_one : (O : ℕ → Bool) (n : Bool) (q t r : ℕ) → ((z : ℕ) → O z ≡ true → n ≡ true → ⊥) → (O q ≡ true → O t ≡ true → q ≡ t) → cond (nat_eq q r) n (O q) ≡ true → cond (nat_eq t r) n (O t) ≡ true → q ≡ t
born_one O n q t r none old a b = grind (arith, nat_tests, none q, none t)

-- a region that is born where no other has a handle
pub disjoint_born : (regions : List (ℕ × Region)) (r : ℕ) (d : Descriptor) → least_taken d.range (values_of regions) ≡ None → AreDisjoint regions → AreDisjoint (with_region r (Live d) regions)
disjoint_born regions r d none old = record { one = one }
  where
    pushed : (b : Bool) (s t : Region) (h : ℤ) → owned (cond b s t) h ≡ cond b (owned s h) (owned t h)
    pushed true s t h = refl
    pushed false s t h = refl

    owner : (q : ℕ) (h : ℤ) → owns (with_region r (Live d) regions) q h ≡ cond (nat_eq q r) (holds d.range h) (owns regions q h)
    owner q h = ap (λ s. owned s h) (region-with_region regions r (Live d) q) ∙ pushed (nat_eq q r) (Live d) (region regions q) h

    one : (q t : ℕ) (h : ℤ) → owns (with_region r (Live d) regions) q h ≡ true → owns (with_region r (Live d) regions) t h ≡ true → q ≡ t
    one q t h a b = born_one (λ z. owns regions z h) (holds d.range h) q t r (λ z own in_range. untaken_all d.range _ regions (fold_none None _ none).1 h own in_range) (old.one q t h) (sym (owner q h) ∙ a) (sym (owner t h) ∙ b)

-- a range that ends where the other begins
joined_one : (a b : HandleRange) (h : ℤ) → ends_at a b.low ≡ true → (int_le a.low h && is_below h b.high) ≡ true → (holds a h || holds b h) ≡ true
joined_one a b h e f = ended a.high e
  where
    numbers : (high : ℤ) (x : Bool) → int_eq high b.low ≡ true → (int_le a.low h && x) ≡ true → ((int_le a.low h && int_lt h high) || (int_le b.low h && x)) ≡ true
    numbers high true e f = grind (arith, ints)
    numbers high false e f = absurd (true≢false (sym (both_true _ _ f).1))

    ended : (high : Option ℤ) → (elim high [ None ↦ false | Some high ↦ int_eq high b.low ]) ≡ true → ((int_le a.low h && is_below h high) || holds b h) ≡ true
    ended None e = absurd (true≢false (sym e))
    ended (Some high) e = numbers high (is_below h b.high) e f

or_turned : (x y : Bool) → (x || y) ≡ true → (y || x) ≡ true
or_turned true true e = refl
or_turned true false e = refl
or_turned false true e = refl
or_turned false false e = e

-- what two ranges that touch hold together
pub joined_holds : (a b : HandleRange) (h : ℤ) → touch a b ≡ true → holds (joined a b) h ≡ true → (holds a h || holds b h) ≡ true
joined_holds a b h e f =
    elim (ends_at a b.low) as (λ t. ends_at a b.low ≡ t → (t || ends_at b a.low) ≡ true → holds (cond t (record { low = a.low; high = b.high }) (record { low = b.low; high = a.high })) h ≡ true → (holds a h || holds b h) ≡ true) [
      | true ↦ λ is e f. joined_one a b h is f
      | false ↦ λ is e f. or_turned (holds b h) (holds a h) (joined_one b a h e f)
    ] refl e f

-- of an owner O before: r takes what source has, which is gone
merge_each : (O : ℕ → Bool) (a c j : Bool) (q r source : ℕ) → (j ≡ true → (a || c) ≡ true) → (a ≡ true → O r ≡ true) → (c ≡ true → O source ≡ true) → cond (nat_eq q source) false (cond (nat_eq q r) j (O q)) ≡ true → O (cond (nat_eq q r) (cond a r source) q) ≡ true
merge_each O a c j q r source joint has_a has_c own = of_test (nat_eq q r) (nat_eq q source) a c own has_a has_c joint
  where
    of_test : (x y a c : Bool) → cond y false (cond x j (O q)) ≡ true → (a ≡ true → O r ≡ true) → (c ≡ true → O source ≡ true) → (j ≡ true → (a || c) ≡ true) → O (cond x (cond a r source) q) ≡ true
    of_test x true a c own has_a has_c joint = absurd (true≢false (sym own))
    of_test true false true c own has_a has_c joint = has_a refl
    of_test true false false c own has_a has_c joint = has_c (joint own)
    of_test false false a c own has_a has_c joint = own

merge_same : (O : ℕ → Bool) (a j : Bool) (q t r source : ℕ) → source ≢ r → cond (nat_eq q source) false (cond (nat_eq q r) j (O q)) ≡ true → cond (nat_eq t source) false (cond (nat_eq t r) j (O t)) ≡ true → cond (nat_eq q r) (cond a r source) q ≡ cond (nat_eq t r) (cond a r source) t → q ≡ t
merge_same O true j q t r source apart x y e = grind (arith, nat_tests)
merge_same O false j q t r source apart x y e = grind (arith, nat_tests)

-- a merge
pub disjoint_merge : (regions : List (ℕ × Region)) (r source index last target : ℕ) (d c : Descriptor) → region regions r ≡ Live d → region regions source ≡ Prepared c target → source ≢ r → touch d.range c.range ≡ true → AreDisjoint regions →
    AreDisjoint (with_region source (Gone last) (with_region r (Live (merged d c index)) regions))
disjoint_merge regions r source index last target d c live prepared apart touches = disjoint_from regions new from each same
  where
    new : List (ℕ × Region)
    new = with_region source (Gone last) (with_region r (Live (merged d c index)) regions)

    from : ℕ → ℤ → ℕ
    from q h = cond (nat_eq q r) (cond (holds d.range h) r source) q

    pushed : (b : Bool) (s t : Region) (h : ℤ) → owned (cond b s t) h ≡ cond b (owned s h) (owned t h)
    pushed true s t h = refl
    pushed false s t h = refl

    owner : (q : ℕ) (h : ℤ) → owns new q h ≡ cond (nat_eq q source) false (cond (nat_eq q r) (holds (joined d.range c.range) h) (owns regions q h))
    owner q h = ap (λ s. owned s h) (region-with_region (with_region r (Live (merged d c index)) regions) source (Gone last) q)
        ∙ pushed (nat_eq q source) (Gone last) _ h
        ∙ ap (λ b. cond (nat_eq q source) false b) (ap (λ s. owned s h) (region-with_region regions r (Live (merged d c index)) q) ∙ pushed (nat_eq q r) (Live (merged d c index)) _ h)

    each : (q : ℕ) (h : ℤ) → owns new q h ≡ true → owns regions (from q h) h ≡ true
    each q h a = merge_each (λ z. owns regions z h) (holds d.range h) (holds c.range h) (holds (joined d.range c.range) h) q r source (joined_holds d.range c.range h touches) (λ e. ap (λ s. owned s h) live ∙ e) (λ e. ap (λ s. owned s h) prepared ∙ e) (sym (owner q h) ∙ a)

    same : (q t : ℕ) (h : ℤ) → owns new q h ≡ true → owns new t h ≡ true → from q h ≡ from t h → q ≡ t
    same q t h a b e = merge_same (λ z. owns regions z h) (holds d.range h) (holds (joined d.range c.range) h) q t r source apart (sym (owner q h) ∙ a) (sym (owner t h) ∙ b) e
