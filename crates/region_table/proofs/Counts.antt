-- What is counted of a set with one position more.
use Rattle.std.proofs.Common.{◌≡◌, ◌≢◌, ◌⊎◌, inl, inr, ◌∙◌, refl, sym, ap, subst, ℕ, zero, suc, ◌+◌, ◌<◌, ◌≤◌, Bool, true, false, true≢false, not, cond, ◌||◌, Option, Some, None, arith, add-one, filter, find, length, unwrap_or}
use Rattle.std.specs.Prelude.{◌==◌}
use Rattle.committed_log.specs.Applied.{first_numbers, with_position}
use Rattle.committed_log.specs.Log.{Log}
use Rattle.committed_log.proofs.Positions.{Finds, find_least, find_is, find_none}
use Rattle.region_table.specs.Counting.{IsFirstFrom}
use Rattle.region_table.specs.Table.{size_of, IsCounted}
use Rattle.region_table.specs.declared.table.Counted.{Counted}
use Rattle.region_table.proofs.Numbers.{count_more}

apart : (p q : ℕ) → q ≢ p → (q == p) ≡ false
apart p q ne = by (q == p) refl
  where
    one : (p q : ℕ) → (q == p) ≡ true → q ≡ p
    one p q e = grind arith

    by : (b : Bool) → (q == p) ≡ b → (q == p) ≡ false
    by false e = e
    by true e = absurd (ne (one p q e))

same : (p : ℕ) → (p == p) ≡ true
same p = grind arith

lt_or : (q n : ℕ) → q < suc n → (q < n) ⊎ (q ≡ n)
lt_or q n h = grind arith

order : (q p : ℕ) → (q < p) ⊎ ((q ≡ p) ⊎ (p < q))
order q p = grind arith

more : (t : ℕ → Bool) (n : ℕ) → length (filter t (first_numbers (suc n))) ≡ cond (t n) (length (filter t (first_numbers n)) + 1) (length (filter t (first_numbers n)))
more t n = ap (λ m. length (filter t (first_numbers m))) (sym (add-one n)) ∙ count_more t n

module _ (A : ℕ → Bool) (p : ℕ) (free : A p ≡ false) where
  abbrev B : ℕ → Bool
  B = with_position A p

  others : (q : ℕ) → q ≢ p → B q ≡ A q
  others q ne = ap (λ b. b || A q) (apart p q ne)

  itself : B p ≡ true
  itself = ap (λ b. b || A p) (same p)

  before : (n : ℕ) → n ≤ p → length (filter B (first_numbers n)) ≡ length (filter A (first_numbers n))
  before zero le = refl
  before (suc n) le = more B n ∙ (λ i. cond (others n (λ e. omega (arith, e, le)) i) (before n (omega (arith, le)) i + 1) (before n (omega (arith, le)) i)) ∙ sym (more A n)

  stepped : (b : Bool) (x y : ℕ) → x ≡ y + 1 → cond b (x + 1) x ≡ cond b (y + 1) y + 1
  stepped true x y e = ap (λ z. z + 1) e
  stepped false x y e = e

  pub one_more : (n : ℕ) → p < n → length (filter B (first_numbers n)) ≡ length (filter A (first_numbers n)) + 1
  one_more zero less = absurd (omega (arith, less))
  one_more (suc n) less = by (lt_or p n less) (λ low. one_more n low)
    where
      by : (p < n) ⊎ (p ≡ n) → (p < n → length (filter B (first_numbers n)) ≡ length (filter A (first_numbers n)) + 1) → length (filter B (first_numbers (suc n))) ≡ length (filter A (first_numbers (suc n))) + 1
      by (inl low) rest = more B n ∙ ap (λ b. cond b (length (filter B (first_numbers n)) + 1) (length (filter B (first_numbers n)))) (others n (λ e. omega (arith, e, low)))
          ∙ stepped (A n) (length (filter B (first_numbers n))) (length (filter A (first_numbers n))) (rest low) ∙ ap (λ z. z + 1) (sym (more A n))
      by (inr is) rest = more B n ∙ ap (λ b. cond b (length (filter B (first_numbers n)) + 1) (length (filter B (first_numbers n)))) (ap B (sym is) ∙ itself)
          ∙ ap (λ z. z + 1) (before n (omega (arith, is)) ∙ sym (more A n ∙ ap (λ b. cond b (length (filter A (first_numbers n)) + 1) (length (filter A (first_numbers n)))) (ap A (sym is) ∙ free)))

  pub not_all : (n : ℕ) → p < n → length (filter A (first_numbers n)) < n
  not_all n less = let few = at_most n in let e = one_more n less in omega (arith, few, e)
    where
      bound : (b : Bool) (x m : ℕ) → x ≤ m → cond b (x + 1) x ≤ suc m
      bound true x m le = omega (arith, le)
      bound false x m le = omega (arith, le)

      at_most : (n : ℕ) → length (filter B (first_numbers n)) ≤ n
      at_most zero = omega arith
      at_most (suc m) = let P : ℕ → Type 0 = λ z. z ≤ suc m in subst P (sym (more B m)) (bound (B m) (length (filter B (first_numbers m))) m (at_most m))

-- ---- the first that is out

not_in : (b : Bool) → not b ≡ true → b ≡ false
not_in true e = absurd (true≢false (sym e))
not_in false e = refl

not_out : (b : Bool) → not b ≡ false → b ≡ true
not_out true e = refl
not_out false e = absurd (true≢false e)

-- told by what is before it and at it
pub first_by : (A : ℕ → Bool) (n first : ℕ) → first ≤ n → ((q : ℕ) → q < first → A q ≡ true) → (first < n → A first ≡ false) → unwrap_or (find (λ q. not (A q)) (first_numbers n)) n ≡ first
first_by A n first le passed out = elim (order first n) [
  | inl less ↦ ap (λ o. unwrap_or o n) (find_is (λ q. not (A q)) n first (record { below = less; passes = ap not (out less); first = λ q low. ap not (passed q low) }))
  | inr rest ↦ elim rest [
    | inl is ↦ ap (λ o. unwrap_or o n) (find_none (λ q. not (A q)) n (λ q low. ap not (passed q (omega (arith, low, is))))) ∙ sym is
    | inr more ↦ absurd (omega (arith, more, le))
  ]
]

pub record TellsFirst (A : ℕ → Bool) (n first : ℕ) : Type 0 where
  pub within : first ≤ n
  pub passed : (q : ℕ) → q < first → A q ≡ true
  pub out : first < n → A first ≡ false

pub first_tells : (A : ℕ → Bool) (n : ℕ) → TellsFirst A n (unwrap_or (find (λ q. not (A q)) (first_numbers n)) n)
first_tells A n = by (find (λ q. not (A q)) (first_numbers n)) (find_least (λ q. not (A q)) n)
  where
    by : (o : Option ℕ) → Finds (λ q. not (A q)) n o → TellsFirst A n (unwrap_or o n)
    by None none = record { within = omega arith; passed = λ q low. not_out (A q) (none q low); out = λ less. absurd (omega (arith, less)) }
    by (Some x) least = record { within = (let low = least.below in omega (arith, low)); passed = λ q low. not_out (A q) (least.first q low); out = λ less. not_in (A x) least.passes }

module _ (log : Log) (A : ℕ → Bool) (c : Counted) (counted : IsCounted log A c) (p : ℕ) (free : A p ≡ false) (within : p < length log.entries) where
  told : TellsFirst A (length log.entries) c.first
  told = subst (TellsFirst A (length log.entries)) (sym counted.first) (first_tells A (length log.entries))

  abbrev n : ℕ
  n = length log.entries

  count_is : c.count + 1 ≡ size_of log (with_position A p)
  count_is = ap (λ z. z + 1) counted.count ∙ sym (one_more A p free (length log.entries) within)

  -- the position was the first that is out
  pub counted_first : (B : ℕ → Bool) → ((q : ℕ) → B q ≡ with_position A p q) → p ≡ c.first → (next : ℕ) → IsFirstFrom B (p + 1) (length log.entries) next → IsCounted log (with_position A p) (record { count = c.count + 1; first = next })
  counted_first B same is next from = record {
    count = count_is;
    first = sym (first_by (with_position A p) (length log.entries) next from.within (λ q low. passed q low (order q p)) (λ less. sym (same next) ∙ from.out less));
  }
    where
      passed : (q : ℕ) → q < next → (q < p) ⊎ ((q ≡ p) ⊎ (p < q)) → with_position A p q ≡ true
      passed q low (inl less) = others A p free q (λ e. omega (arith, e, less)) ∙ told.passed q (omega (arith, less, is))
      passed q low (inr (inl e)) = ap (with_position A p) e ∙ itself A p free
      passed q low (inr (inr more)) = sym (same q) ∙ from.passed q (omega (arith, more)) low

  -- another was
  pub counted_still : p ≢ c.first → IsCounted log (with_position A p) (record { count = c.count + 1; first = c.first })
  counted_still ne = record {
    count = count_is;
    first = sym (first_by (with_position A p) (length log.entries) c.first told.within (λ q low. passed q low) (λ less. others A p free c.first (λ e. ne (sym e)) ∙ told.out less));
  }
    where
      passed : (q : ℕ) → q < c.first → with_position A p q ≡ true
      passed q low = by (A q) refl
        where
          by : (b : Bool) → A q ≡ b → with_position A p q ≡ true
          by true in_set = others A p free q (λ e. true≢false (sym in_set ∙ ap A e ∙ free)) ∙ in_set
          by false out = absurd (true≢false (sym (told.passed q low) ∙ out))

pub room : (log : Log) (A : ℕ → Bool) (c : Counted) → IsCounted log A c → (p : ℕ) → A p ≡ false → p < length log.entries → c.count < length log.entries
room log A c counted p free within = let few = not_all A p free (length log.entries) within in let is = counted.count in omega (arith, few, is)
