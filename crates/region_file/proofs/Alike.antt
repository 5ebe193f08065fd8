-- The entries of two maps, gone over side by side.
use Rattle.std.proofs.Common.{◌≡◌, ap, List, [], ◌∷◌}

-- what is left of both is the same exactly where both are
pub record AreAlike {K V : Type 0} (xs ys all others : List (K × V)) : Type 0 where
  pub yes : xs ≡ ys → all ≡ others
  pub no : all ≡ others → xs ≡ ys

module _ {K V : Type 0} where
  pub alike_first : (all others : List (K × V)) → AreAlike all others all others
  alike_first all others = record { yes = λ e. e; no = λ e. e }

  pub alike_next : (k l : K) (v w : V) (xs ys all others : List (K × V)) → AreAlike ((k, v) ∷ xs) ((l, w) ∷ ys) all others → (k ≡ l) × (v ≡ w) → AreAlike xs ys all others
  alike_next k l v w xs ys all others alike is = record { yes = λ e. alike.yes (λ i. (is.0 i, is.1 i) ∷ e i); no = λ e. tails (alike.no e) }
    where
      tails : (k, v) ∷ xs ≡ (l, w) ∷ ys → xs ≡ ys
      tails e = cc e

  pub heads_differ : (k l : K) (v w : V) (xs ys all others : List (K × V)) → AreAlike ((k, v) ∷ xs) ((l, w) ∷ ys) all others → ((k ≡ l) × (v ≡ w) → ⊥) → all ≡ others → ⊥
  heads_differ k l v w xs ys all others alike differ e = differ (heads (alike.no e))
    where
      first : (x y : K × V) → x ∷ xs ≡ y ∷ ys → x ≡ y
      first x y e = cc e

      heads : (k, v) ∷ xs ≡ (l, w) ∷ ys → (k ≡ l) × (v ≡ w)
      heads e = let h = first (k, v) (l, w) e in (ap (λ (x : K × V). x.0) h, ap (λ (x : K × V). x.1) h)

  pub one_ends : (x : K × V) (xs all others : List (K × V)) → AreAlike (x ∷ xs) [] all others → all ≡ others → ⊥
  one_ends x xs all others alike e = absurd (cc (alike.no e))
