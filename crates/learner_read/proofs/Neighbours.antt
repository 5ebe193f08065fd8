-- Where versions rise, the next version tells whether one is shown.
use Rattle.std.proofs.Common.{◌≡◌, ◌⊎◌, inl, inr, ◌∙◌, refl, sym, ap, subst, ℕ, ◌+◌, ◌<◌, ◌≤◌, ℤ, Bool, true, false, not, ◌&&◌, ◌||◌, List, [], ◌∷◌, Some, nat_le, nat_lt, length, get_or, slice_get, map, option_map, suc, arith}
use Rattle.std.specs.Prelude.{int_le}
use Rattle.std.specs.List.{list_any}
use Rattle.std.specs.Ordering.{int_cmp, nat_cmp, ordering_then}
use Rattle.std.specs.declared.cmp.Ordering.{Ordering}
use Rattle.std.specs.declared.cmp.Ordering.TheVariants.{Less, Equal, Greater}
use Rattle.std.proofs.lemmas.Int.{ints}
use Rattle.std.proofs.lemmas.Option.{get_or_from_slice_get, slice_get-map, slice_get_within}
use Rattle.column_block.specs.declared.cell.Version.{Version}
use Rattle.column_block.specs.Order.{Rise}
use Rattle.learner_read.specs.Rows.{is_newer, is_shown}
use Rattle.learner_read.proofs.Members.{In, IsBefore, any_in, in_get, before_later}
use Rattle.learner_read.proofs.Newest.{is_top, newer, is_newer_at}

before_le : (v w : Version) → IsBefore v w → int_le v.handle w.handle ≡ true
before_le v w e = by (int_cmp v.handle w.handle) refl e
  where
    up : (a b : ℤ) → int_cmp a b ≡ Less → int_le a b ≡ true
    up a b e = grind (arith, ints)

    level : (a b : ℤ) → int_cmp a b ≡ Equal → int_le a b ≡ true
    level a b e = grind (arith, ints)

    by : (o : Ordering) → int_cmp v.handle w.handle ≡ o → ordering_then o (nat_cmp v.ts w.ts) ≡ Less → int_le v.handle w.handle ≡ true
    by Less is e = up v.handle w.handle is
    by Equal is e = level v.handle w.handle is
    by Greater is e = cc e

between : (a b c : ℤ) → int_le a b ≡ true → int_le b c ≡ true → c ≡ a → b ≡ a
between a b c p q e = grind (arith, ints)

none_any : (p : Version → Bool) (vs : List Version) (d : Version) → ((k : ℕ) → k < length vs → p (get_or vs k d) ≡ false) → list_any p vs ≡ false
none_any p [] d each = refl
none_any p (v ∷ vs) d each = (λ i. each 0 (omega arith) i || none_any p vs d (λ k less. each (suc k) (omega (arith, less))) i)

not_newer : (ts : ℕ) (v w : Version) → (w.handle ≡ v.handle → v.ts < w.ts → w.ts ≤ ts → ⊥) → is_newer ts v w ≡ false
not_newer ts v w never = by (is_newer ts v w) refl
  where
    by : (b : Bool) → is_newer ts v w ≡ b → is_newer ts v w ≡ false
    by false e = e
    by true e = let n = newer ts v w e in absurd (never n.0 n.1 n.2)

-- what is above ts or gone is not shown
pub above_not : (ts : ℕ) (vs : List Version) (v : Version) → ts < v.ts → is_shown ts vs v ≡ false
above_not ts vs v less = ap (λ b. b && (not v.gone && not (list_any (is_newer ts v) vs))) (above v.ts ts less)
  where
    above : (a b : ℕ) → b < a → nat_le a b ≡ false
    above a b e = grind arith

pub gone_not : (ts : ℕ) (vs : List Version) (v : Version) → v.gone ≡ true → is_shown ts vs v ≡ false
gone_not ts vs v gone = ap (λ b. nat_le v.ts ts && (not b && not (list_any (is_newer ts v) vs))) gone ∙ and_false (nat_le v.ts ts)
  where
    and_false : (b : Bool) → (b && false) ≡ false
    and_false true = refl
    and_false false = refl

module _ (ts : ℕ) (vs : List Version) (rise : Rise vs) (i : ℕ) (v : Version) (within : i < length vs) (here : get_or vs i v ≡ v) where
  earlier : (k : ℕ) → k < i → is_newer ts v (get_or vs k v) ≡ false
  earlier k less = not_newer ts v (get_or vs k v) (λ same later low. (let e = before_later (get_or vs k v) v (subst (λ x. IsBefore (get_or vs k v) x) here (rise k i v less within)) same in absurd (omega (arith, later, e))))

  itself : (k : ℕ) → k ≡ i → is_newer ts v (get_or vs k v) ≡ false
  itself k same = not_newer ts v (get_or vs k v) (λ _ later low. (let e : (get_or vs k v).ts ≡ v.ts = ap (λ (x : Version). x.ts) (ap (λ j. get_or vs j v) same ∙ here) in absurd (omega (arith, later, e))))

  order : (k : ℕ) → (k < i) ⊎ ((k ≡ i) ⊎ (i < k))
  order k = grind arith

  none_of : ((k : ℕ) → i < k → k < length vs → is_newer ts v (get_or vs k v) ≡ false) → list_any (is_newer ts v) vs ≡ false
  none_of later = none_any (is_newer ts v) vs v (λ k less. elim (order k) [ inl e ↦ earlier k e | inr o ↦ elim o [ inl e ↦ itself k e | inr e ↦ later k e less ] ])

  module _ (low : v.ts ≤ ts) (put : v.gone ≡ false) where
    shown_by : list_any (is_newer ts v) vs ≡ false → is_shown ts vs v ≡ true
    shown_by alone = is_top ts vs v (record { low = low; put = put; alone = alone })

    -- the last one
    pub last_shown : i + 1 ≡ length vs → is_shown ts vs v ≡ true
    last_shown last = shown_by (none_of (λ k more less. absurd (omega (arith, more, less, last))))

    module _ (n : Version) (inside : i + 1 < length vs) (next : get_or vs (i + 1) v ≡ n) where
      later_of : (P : Version → Type 0) → P n → ((w : Version) → IsBefore n w → P w) → (k : ℕ) → i < k → k < length vs → P (get_or vs k v)
      later_of P at behind k more less = elim (cases k more) [
        | inl e ↦ subst (λ j. P (get_or vs j v)) (sym e) (subst P (sym next) at)
        | inr e ↦ behind (get_or vs k v) (subst (λ x. IsBefore x (get_or vs k v)) next (rise (i + 1) k v e less))
      ]
        where
          cases : (k : ℕ) → i < k → (k ≡ i + 1) ⊎ (i + 1 < k)
          cases k e = grind arith

      up : int_le v.handle n.handle ≡ true
      up = before_le v n (subst (λ x. IsBefore x n) here (subst (λ x. IsBefore (get_or vs i v) x) next (rise i (i + 1) v (omega arith) inside)))

      -- the next is of another row
      pub other_shown : (n.handle ≡ v.handle → ⊥) → is_shown ts vs v ≡ true
      other_shown apart = shown_by (none_of (later_of (λ w. is_newer ts v w ≡ false) (not_newer ts v n (λ same _ _. apart same)) (λ w before. not_newer ts v w (λ same _ _. apart (between v.handle n.handle w.handle up (before_le n w before) same)))))

      -- the next is above ts
      pub later_shown : n.handle ≡ v.handle → ts < n.ts → is_shown ts vs v ≡ true
      later_shown same above = shown_by (none_of (later_of (λ w. is_newer ts v w ≡ false) (not_newer ts v n (λ _ _ l. absurd (omega (arith, above, l)))) (λ w before. not_newer ts v w (λ s _ l. (let e = before_later n w before (same ∙ sym s) in absurd (omega (arith, above, l, e)))))))

    -- the next is newer
    pub passed_not : (n : Version) → i + 1 < length vs → get_or vs (i + 1) v ≡ n → n.handle ≡ v.handle → n.ts ≤ ts → is_shown ts vs v ≡ false
    passed_not n inside next same le =
        let before : IsBefore v n = subst (λ x. IsBefore x n) here (subst (λ x. IsBefore (get_or vs i v) x) next (rise i (i + 1) v (omega arith) inside)) in
        let is = any_in (is_newer ts v) n vs (subst (λ x. In x vs) next (in_get vs (i + 1) v inside)) (is_newer_at ts v n same (before_later v n before (sym same)) le) in
        ap (λ b. nat_le v.ts ts && (not v.gone && not b)) is ∙ and_false (nat_le v.ts ts) (not v.gone)
      where
        and_false : (a b : Bool) → (a && (b && false)) ≡ false
        and_false true true = refl
        and_false true false = refl
        and_false false b = refl

-- ---- by place

pub at_place : (f : Version → Bool) (vs : List Version) (i : ℕ) (v : Version) (b : Bool) → slice_get vs i ≡ Some v → f v ≡ b → slice_get (map f vs) i ≡ Some b
at_place f vs i v b here is = slice_get-map f vs i ∙ ap (option_map f) here ∙ ap Some is

-- what the next version tells
pub next_tells : (ts : ℕ) (vs : List Version) → Rise vs → (i : ℕ) (v n : Version) → slice_get vs i ≡ Some v → v.ts ≤ ts → v.gone ≡ false → slice_get vs (i + 1) ≡ Some n → n.handle ≡ v.handle → slice_get (map (is_shown ts vs) vs) i ≡ Some (nat_lt ts n.ts)
next_tells ts vs rise i v n here low put next same = at_place (is_shown ts vs) vs i v (nat_lt ts n.ts) here (by (nat_lt ts n.ts) refl)
  where
    within : i < length vs
    within = slice_get_within vs i v here

    at : get_or vs i v ≡ v
    at = get_or_from_slice_get vs i v v here

    inside : i + 1 < length vs
    inside = slice_get_within vs (i + 1) n next

    at_next : get_or vs (i + 1) v ≡ n
    at_next = get_or_from_slice_get vs (i + 1) n v next

    above : (a b : ℕ) → nat_lt a b ≡ true → a < b
    above a b e = grind arith

    below : (a b : ℕ) → nat_lt a b ≡ false → b ≤ a
    below a b e = grind arith

    by : (b : Bool) → nat_lt ts n.ts ≡ b → is_shown ts vs v ≡ nat_lt ts n.ts
    by true is = later_shown ts vs rise i v within at low put n inside at_next same (above ts n.ts is) ∙ sym is
    by false is = passed_not ts vs rise i v within at low put n inside at_next same (below ts n.ts is) ∙ sym is

pub other_row_tells : (ts : ℕ) (vs : List Version) → Rise vs → (i : ℕ) (v n : Version) → slice_get vs i ≡ Some v → v.ts ≤ ts → v.gone ≡ false → slice_get vs (i + 1) ≡ Some n → (n.handle ≡ v.handle → ⊥) → slice_get (map (is_shown ts vs) vs) i ≡ Some true
other_row_tells ts vs rise i v n here low put next apart =
    at_place (is_shown ts vs) vs i v true here (other_shown ts vs rise i v (slice_get_within vs i v here) (get_or_from_slice_get vs i v v here) low put n (slice_get_within vs (i + 1) n next) (get_or_from_slice_get vs (i + 1) n v next) apart)

pub end_tells : (ts : ℕ) (vs : List Version) → Rise vs → (i : ℕ) (v : Version) → slice_get vs i ≡ Some v → v.ts ≤ ts → v.gone ≡ false → i + 1 ≡ length vs → slice_get (map (is_shown ts vs) vs) i ≡ Some true
end_tells ts vs rise i v here low put last = at_place (is_shown ts vs) vs i v true here (last_shown ts vs rise i v (slice_get_within vs i v here) (get_or_from_slice_get vs i v v here) low put last)

-- what a test by place tells of the version there
pub at_read : (f : Version → Bool) (vs : List Version) (i : ℕ) (v : Version) (b : Bool) → slice_get vs i ≡ Some v → slice_get (map f vs) i ≡ Some b → f v ≡ b
at_read f vs i v b here is = some_bool (f v) b (sym (ap (option_map f) here) ∙ sym (slice_get-map f vs i) ∙ is)
  where
    some_bool : (a b : Bool) → Some a ≡ Some b → a ≡ b
    some_bool a b e = cc
