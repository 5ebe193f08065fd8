-- When a test tells whether something holds, and how tests are joined.
use Rattle.std.proofs.Common.{◌≡◌, ◌⊎◌, inl, inr, ◌∙◌, refl, sym, ap, ℕ, ◌<◌, ◌≤◌, Bool, true, false, true≢false, not, ◌&&◌, ◌||◌, List, [], ◌∷◌, Option, Some, None, is_none, nat_lt, nat_le, arith}
use Rattle.std.specs.List.{list_all, list_any}
use Rattle.committed_log.specs.Applied.{first_numbers}
use Rattle.committed_log.proofs.Faults.{both_true, or_either, or_first, or_second}
use Rattle.committed_log.proofs.Positions.{all_first, each_first}
use Rattle.good_replica.proofs.Facts.{and_true}

-- the test answers yes exactly where it holds
pub record Tells (b : Bool) (P : Type 0) : Type 0 where
  pub yes : b ≡ true → P
  pub holds : P → b ≡ true

pub tells_same : (b : Bool) (P Q : Type 0) → (P → Q) → (Q → P) → Tells b P → Tells b Q
tells_same b P Q f g t = record { yes = λ e. f (t.yes e); holds = λ q. t.holds (g q) }

pub tells_both : (a b : Bool) (P Q : Type 0) → Tells a P → Tells b Q → Tells (a && b) (P × Q)
tells_both a b P Q s t = record { yes = λ e. (let both = both_true a b e in (s.yes both.0, t.yes both.1)); holds = λ pq. and_true a b (s.holds pq.0) (t.holds pq.1) }

pub tells_either : (a b : Bool) (P Q : Type 0) → Tells a P → Tells b Q → Tells (a || b) (P ⊎ Q)
tells_either a b P Q s t = record {
  yes = λ e. elim (or_either a b e) [ inl x ↦ inl (s.yes x) | inr y ↦ inr (t.yes y) ];
  holds = λ pq. elim pq [ inl p ↦ or_first a b (s.holds p) | inr q ↦ or_second a b (t.holds q) ];
}

pub tells_if : (a b : Bool) (P Q : Type 0) → Tells a P → (P → Tells b Q) → Tells (not a || b) (P → Q)
tells_if a b P Q s t = record { yes = λ e p. (t p).yes (other a b (s.holds p) e); holds = λ f. by a refl f }
  where
    other : (a b : Bool) → a ≡ true → (not a || b) ≡ true → b ≡ true
    other true b e h = h
    other false b e h = absurd (true≢false (sym e))

    by : (x : Bool) → a ≡ x → (P → Q) → (not a || b) ≡ true
    by true is f = or_second (not a) b ((t (s.yes is)).holds (f (s.yes is)))
    by false is f = or_first (not a) b (ap not is)

pub tells_less : (a b : ℕ) → Tells (nat_lt a b) (a < b)
tells_less a b = record { yes = λ e. one a b e; holds = λ l. two a b l }
  where
    one : (a b : ℕ) → nat_lt a b ≡ true → a < b
    one a b e = grind arith

    two : (a b : ℕ) → a < b → nat_lt a b ≡ true
    two a b e = grind (arith, e)

pub tells_le : (a b : ℕ) → Tells (nat_le a b) (a ≤ b)
tells_le a b = record { yes = λ e. one a b e; holds = λ l. two a b l }
  where
    one : (a b : ℕ) → nat_le a b ≡ true → a ≤ b
    one a b e = grind arith

    two : (a b : ℕ) → a ≤ b → nat_le a b ≡ true
    two a b e = grind (arith, e)

pub tells_true : (b : Bool) → Tells b (b ≡ true)
tells_true b = record { yes = λ e. e; holds = λ e. e }

pub tells_false : (b : Bool) → Tells (not b) (b ≡ false)
tells_false true = record { yes = λ e. absurd (true≢false (sym e)); holds = λ e. absurd (true≢false e) }
tells_false false = record { yes = λ e. refl; holds = λ e. refl }

pub tells_none : {X : Type 0} (o : Option X) → Tells (is_none o) (o ≡ None)
tells_none None = record { yes = λ e. refl; holds = λ e. refl }
tells_none (Some x) = record { yes = λ e. absurd (true≢false (sym e)); holds = λ e. cc e }

-- of an option, where it is something
pub tells_some : {X : Type 0} (o : Option X) (f : X → Bool) (Q : X → Type 0) → ((x : X) → Tells (f x) (Q x)) → Tells (elim o [ None ↦ true | Some x ↦ f x ]) ((x : X) → o ≡ Some x → Q x)
tells_some None f Q t = record { yes = λ e x is. cc is; holds = λ all. refl }
tells_some {X} (Some y) f Q t = record { yes = λ e x is. moved x (one y x is) e; holds = λ all. (t y).holds (all y refl) }
  where
    one : (y x : X) → Some y ≡ Some x → y ≡ x
    one y x e = cc e

    moved : (x : X) → y ≡ x → f y ≡ true → Q x
    moved x same e = (t x).yes (ap f (sym same) ∙ e)

-- ---- of the elements of a list

module _ {X : Type 0} (same : X → X → Bool) (exact : (x y : X) → same x y ≡ true → x ≡ y) where
  abbrev pub is_among : X → List X → Bool
  is_among n xs = list_any (λ x. same x n) xs

  all_in : (f : X → Bool) (xs : List X) → list_all f xs ≡ true → (n : X) → is_among n xs ≡ true → f n ≡ true
  all_in f [] all n e = absurd (true≢false (sym e))
  all_in f (x ∷ xs) all n e =
      let both = both_true (f x) (list_all f xs) all in
      elim (or_either (same x n) (is_among n xs) e) [ inl here ↦ ap f (sym (exact x n here)) ∙ both.0 | inr more ↦ all_in f xs both.1 n more ]

  all_of : (f : X → Bool) (xs : List X) → ((n : X) → f n ≡ true) → list_all f xs ≡ true
  all_of f [] all = refl
  all_of f (x ∷ xs) all = and_true (f x) (list_all f xs) (all x) (all_of f xs all)

  -- of each one, where it holds of those that aren't in the list
  pub tells_all : (xs : List X) (f : X → Bool) (P : X → Type 0) → ((n : X) → Tells (f n) (P n)) → ((n : X) → is_among n xs ≡ false → P n) → Tells (list_all f xs) ((n : X) → P n)
  tells_all xs f P t out = record { yes = λ e n. by n e (is_among n xs) refl; holds = λ all. all_of f xs (λ n. (t n).holds (all n)) }
    where
      by : (n : X) → list_all f xs ≡ true → (b : Bool) → is_among n xs ≡ b → P n
      by n e true is = (t n).yes (all_in f xs e n is)
      by n e false is = out n is

  any_in : (f : X → Bool) (xs : List X) → list_any f xs ≡ true → (n : X) × (f n ≡ true)
  any_in f [] e = absurd (true≢false (sym e))
  any_in f (x ∷ xs) e = elim (or_either (f x) (list_any f xs) e) [ inl here ↦ (x, here) | inr more ↦ any_in f xs more ]

  in_any : (f : X → Bool) (xs : List X) (n : X) → is_among n xs ≡ true → f n ≡ true → list_any f xs ≡ true
  in_any f [] n e h = absurd (true≢false (sym e))
  in_any f (x ∷ xs) n e h = elim (or_either (same x n) (is_among n xs) e) [
    | inl here ↦ or_first (f x) (list_any f xs) (ap f (exact x n here) ∙ h)
    | inr more ↦ or_second (f x) (list_any f xs) (in_any f xs n more h)
  ]

  -- of some, where it holds of none that isn't in the list
  pub tells_any : (xs : List X) (f : X → Bool) (P : X → Type 0) → ((n : X) → Tells (f n) (P n)) → ((n : X) → P n → is_among n xs ≡ true) → Tells (list_any f xs) ((n : X) × P n)
  tells_any xs f P t inside = record { yes = λ e. (let n = any_in f xs e in (n.0, (t n.0).yes n.1)); holds = λ np. in_any f xs np.0 (inside np.0 np.1) ((t np.0).holds np.1) }

-- of each number, where it holds of those from a bound on
pub tells_first : (bound : ℕ) (f : ℕ → Bool) (P : ℕ → Type 0) → ((n : ℕ) → n < bound → Tells (f n) (P n)) → ((n : ℕ) → bound ≤ n → P n) → Tells (list_all f (first_numbers bound)) ((n : ℕ) → P n)
tells_first bound f P t out = record { yes = λ e n. by n e (either n bound); holds = λ all. all_first f bound (λ n less. (t n less).holds (all n)) }
  where
    either : (n b : ℕ) → (n < b) ⊎ (b ≤ n)
    either n b = grind arith

    by : (n : ℕ) → list_all f (first_numbers bound) ≡ true → (n < bound) ⊎ (bound ≤ n) → P n
    by n e (inl less) = (t n less).yes (each_first f bound e n less)
    by n e (inr le) = out n le
