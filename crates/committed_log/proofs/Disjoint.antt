-- No handle lies in two regions: what a region looks up after a change, and that a region with fewer handles and the parts of a split keep handles apart.
use Rattle.std.proofs.Common.{◌≡◌, ◌≢◌, ◌∙◌, refl, sym, ap, subst, ℕ, ℤ, Bool, true, false, cond, ◌&&◌, List, Option, Some, None, unwrap_or, int_le, int_lt, arith, nat_eq, eq-eqb}
use Rattle.std.proofs.lemmas.Int.{ints}
use Rattle.std.proofs.lemmas.Map.Views.{exact_unsigned_eq}
use Rattle.std.proofs.lemmas.Bool.Decides.{nat_tests}
use Rattle.std.specs.Ordering.{nat_cmp}
use Rattle.std.specs.Cmp.{nat_cmp_total, unsigned_tied}
use Rattle.std.proofs.Common.{true≢false}
use Rattle.std.specs.Map.{lookup}
use Rattle.std.specs.BTreeMap.{is_at}
use Rattle.flash_types.specs.Ranges.{holds, is_below}
use Rattle.flash_types.specs.declared.range.HandleRange.{HandleRange}
use Rattle.committed_log.specs.declared.region.Descriptor.{Descriptor}
use Rattle.committed_log.specs.Regions.{Region, Unborn, Live, region, with_region, lower_part, upper_part}
use Rattle.committed_log.specs.Laws.{owned, owns, AreDisjoint}
use Rattle.committed_log.proofs.Maps.{lookup-insert_entry}

unwrap_cond : (b : Bool) (st : Region) (o : Option Region) → unwrap_or (cond b (Some st) o) Unborn ≡ cond b st (unwrap_or o Unborn)
unwrap_cond true st o = refl
unwrap_cond false st o = refl

-- a region after one of them is put into a state
pub region-with_region : (regions : List (ℕ × Region)) (k : ℕ) (st : Region) (q : ℕ) → region (with_region k st regions) q ≡ cond (nat_eq q k) st (region regions q)
region-with_region regions k st q = ap (λ o. unwrap_or o Unborn) (lookup-insert_entry nat_cmp_total regions k st q) ∙ unwrap_cond (is_at (nat_cmp q) k) st (lookup (is_at (nat_cmp q)) regions) ∙ ap (λ b. cond b st (region regions q)) (same_number q k)
  where
    same_number : (a b : ℕ) → is_at (nat_cmp a) b ≡ nat_eq a b
    same_number a b = unsigned_tied a b

-- where each handle's owner comes from one owner before, and no two come from one
pub disjoint_from : (old new : List (ℕ × Region)) (from : ℕ → ℤ → ℕ) → ((q : ℕ) (h : ℤ) → owns new q h ≡ true → owns old (from q h) h ≡ true) →
    ((q r : ℕ) (h : ℤ) → owns new q h ≡ true → owns new r h ≡ true → from q h ≡ from r h → q ≡ r) → AreDisjoint old → AreDisjoint new
disjoint_from old new from each same d = record { one = λ q r h a b. same q r h a b (d.one (from q h) (from r h) h (each q h a) (each r h b)) }

pub by_number : {P : Type 0} (q k : ℕ) → (q ≡ k → nat_eq q k ≡ true → P) → (q ≢ k → nat_eq q k ≡ false → P) → P
by_number {P} q k here there = elim (nat_eq q k) as (λ b. nat_eq q k ≡ b → P) [ true ↦ λ e. here (exact_unsigned_eq q k e) e | false ↦ λ e. there (λ s. absurd (clash (sym (eq-eqb q k s) ∙ e))) e ] refl
  where
    clash : true ≡ false → ⊥
    clash e = absurd (true≢false e)

-- a region that keeps at most its handles
pub disjoint_kept : (regions : List (ℕ × Region)) (k : ℕ) (st : Region) → ((h : ℤ) → owned st h ≡ true → owns regions k h ≡ true) → AreDisjoint regions → AreDisjoint (with_region k st regions)
disjoint_kept regions k st fewer = disjoint_from regions (with_region k st regions) (λ q h. q) each (λ q r h a b e. e)
  where
    each : (q : ℕ) (h : ℤ) → owns (with_region k st regions) q h ≡ true → owns regions q h ≡ true
    each q h a = by_number q k
        (λ same is. subst (λ (z : ℕ). owns regions z h ≡ true) (sym same) (fewer h (sym (ap (λ s. owned s h) (region-with_region regions k st q ∙ ap (λ b. cond b st (region regions q)) is)) ∙ a)))
        (λ apart is. sym (ap (λ s. owned s h) (region-with_region regions k st q ∙ ap (λ b. cond b st (region regions q)) is)) ∙ a)

pub in_lower : (range : HandleRange) (at h : ℤ) → is_below at range.high ≡ true → (int_le range.low h && int_lt h at) ≡ true → holds range h ≡ true
in_lower range at h inside a = below range.high inside
  where
    below : (high : Option ℤ) → is_below at high ≡ true → (int_le range.low h && is_below h high) ≡ true
    below None e = grind (arith, ints)
    below (Some high) e = grind (arith, ints)

pub in_upper : (range : HandleRange) (at h : ℤ) → int_lt range.low at ≡ true → (int_le at h && is_below h range.high) ≡ true → holds range h ≡ true
in_upper range at h inside a = below (is_below h range.high) a
  where
    below : (b : Bool) → (int_le at h && b) ≡ true → (int_le range.low h && b) ≡ true
    below true e = grind (arith, ints)
    below false e = grind (arith, ints)

not_both : (at h : ℤ) (low : ℤ) (b : Bool) → (int_le low h && int_lt h at) ≡ true → (int_le at h && b) ≡ true → ⊥
not_both at h low b e f = grind (arith, ints)

-- of an owner O before, and the owners after r was parted into low and, as child, up
split_each : (O : ℕ → Bool) (low up : Bool) (q child r : ℕ) → (low ≡ true → O r ≡ true) → (up ≡ true → O r ≡ true) → cond (nat_eq q r) low (cond (nat_eq q child) up (O q)) ≡ true → child ≢ r → O (cond (nat_eq q child) r q) ≡ true
split_each O low up q child r lower upper a apart = by_number q child
    (λ same is. subst (λ (b : Bool). O (cond b r q) ≡ true) (sym is) (upper (sym (ap (λ b. cond b low (cond true up (O q))) (not_r same)) ∙ (sym (ap (λ b. cond (nat_eq q r) low (cond b up (O q))) is)) ∙ a)))
    (λ other is. subst (λ (b : Bool). O (cond b r q) ≡ true) (sym is) (by_number q r
    (λ same at_r. subst (λ (z : ℕ). O z ≡ true) (sym same) (lower (sym (ap (λ b. cond b low (cond (nat_eq q child) up (O q))) at_r) ∙ a)))
    (λ apart_r at_r. sym (ap (λ b. cond b low (cond (nat_eq q child) up (O q))) at_r ∙ ap (λ b. cond b up (O q)) is) ∙ a)))
  where
    not_r : q ≡ child → nat_eq q r ≡ false
    not_r same = by_number q r (λ at_r _. absurd (apart (sym same ∙ at_r))) (λ _ e. e)

split_same : (O : ℕ → Bool) (low up : Bool) (q t child r : ℕ) → (low ≡ true → up ≡ true → ⊥) → child ≢ r → cond (nat_eq q r) low (cond (nat_eq q child) up (O q)) ≡ true → cond (nat_eq t r) low (cond (nat_eq t child) up (O t)) ≡ true → cond (nat_eq q child) r q ≡ cond (nat_eq t child) r t → q ≡ t
split_same O low up q t child r not_both apart a b e = grind (arith, nat_tests)

-- the two parts of a split
pub disjoint_split : (regions : List (ℕ × Region)) (r child index : ℕ) (d : Descriptor) (at : ℤ) → region regions r ≡ Live d → child ≢ r → int_lt d.range.low at ≡ true → is_below at d.range.high ≡ true → AreDisjoint regions →
    AreDisjoint (with_region r (Live (lower_part d at index)) (with_region child (Live (upper_part d at)) regions))
disjoint_split regions r child index d at live apart above under = disjoint_from regions new from each same
  where
    new : List (ℕ × Region)
    new = with_region r (Live (lower_part d at index)) (with_region child (Live (upper_part d at)) regions)

    from : ℕ → ℤ → ℕ
    from q h = cond (nat_eq q child) r q

    low : ℤ → Bool
    low h = int_le d.range.low h && int_lt h at

    up : ℤ → Bool
    up h = int_le at h && is_below h d.range.high

    pushed : (b : Bool) (s t : Region) (h : ℤ) → owned (cond b s t) h ≡ cond b (owned s h) (owned t h)
    pushed true s t h = refl
    pushed false s t h = refl

    owner : (q : ℕ) (h : ℤ) → owns new q h ≡ cond (nat_eq q r) (low h) (cond (nat_eq q child) (up h) (owns regions q h))
    owner q h = ap (λ s. owned s h) (region-with_region (with_region child (Live (upper_part d at)) regions) r (Live (lower_part d at index)) q)
        ∙ pushed (nat_eq q r) _ _ h
        ∙ ap (λ b. cond (nat_eq q r) (low h) b) (ap (λ s. owned s h) (region-with_region regions child (Live (upper_part d at)) q) ∙ pushed (nat_eq q child) _ _ h)

    own : (h : ℤ) → holds d.range h ≡ true → owns regions r h ≡ true
    own h e = ap (λ s. owned s h) live ∙ e

    each : (q : ℕ) (h : ℤ) → owns new q h ≡ true → owns regions (from q h) h ≡ true
    each q h a = split_each (λ z. owns regions z h) (low h) (up h) q child r (λ l. own h (in_lower d.range at h under l)) (λ u. own h (in_upper d.range at h above u)) (sym (owner q h) ∙ a) apart

    same : (q t : ℕ) (h : ℤ) → owns new q h ≡ true → owns new t h ≡ true → from q h ≡ from t h → q ≡ t
    same q t h a b e = split_same (λ z. owns regions z h) (low h) (up h) q t child r (not_both at h d.range.low (is_below h d.range.high)) apart (sym (owner q h) ∙ a) (sym (owner t h) ∙ b) e
