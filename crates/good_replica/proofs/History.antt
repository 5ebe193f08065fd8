-- What is committed of a handle, as entries are added: it grows until an entry clears it, and what comes later is newer.
use Rattle.std.proofs.Common.{◌≡◌, inl, inr, ◌∙◌, refl, sym, ap, subst, ℕ, zero, suc, ◌<◌, ◌≤◌, Bool, false, Option, Some, None, arith}
use Rattle.column_block.specs.declared.cell.Version.{Version}
use Rattle.good_replica.specs.Front.{IsUncleared}
use Rattle.good_replica.specs.Versions.{Versions}
use Rattle.good_replica.proofs.Facts.{le_or}

pub record IsHistory (written : ℕ → Versions) (clears : ℕ → Bool) : Type 0 where
  pub grows : (p : ℕ) → clears p ≡ false → (ts : ℕ) (v : Version) → written p ts ≡ Some v → written (suc p) ts ≡ Some v
  pub newer : (p : ℕ) → clears p ≡ false → (c d : ℕ) (u v : Version) → written p c ≡ Some u → written p d ≡ None → written (suc p) d ≡ Some v → c < d

module _ {written : ℕ → Versions} {clears : ℕ → Bool} (history : IsHistory written clears) where
  pub grows_to : (p q : ℕ) → p ≤ q → IsUncleared clears p q → (ts : ℕ) (v : Version) → written p ts ≡ Some v → written q ts ≡ Some v
  grows_to p zero h un ts v e = let same : p ≡ 0 = omega (arith, h) in subst (λ n. written n ts ≡ Some v) same e
  grows_to p (suc q) h un ts v e = elim (le_or p q h) [
    | inl less ↦ history.grows q (un q less (omega arith)) ts v (grows_to p q less (λ x a b. un x a (omega (arith, b))) ts v e)
    | inr same ↦ subst (λ n. written n ts ≡ Some v) same e
  ]

  pub newer_to : (p q : ℕ) → p ≤ q → IsUncleared clears p q → (c d : ℕ) (u v : Version) → written p c ≡ Some u → written p d ≡ None → written q d ≡ Some v → c < d
  newer_to p zero h un c d u v old none new = let same : p ≡ 0 = omega (arith, h) in cc (sym none ∙ ap (λ n. written n d) same ∙ new)
  newer_to p (suc q) h un c d u v old none new = elim (le_or p q h) [
    | inl less ↦ by less (λ x a b. un x a (omega (arith, b))) (newer_to p q less (λ x a b. un x a (omega (arith, b))) c d u) (written q d) refl
    | inr same ↦ cc (sym none ∙ ap (λ n. written n d) same ∙ new)
  ]
    where
      by : p ≤ q → IsUncleared clears p q → ((w : Version) → written p c ≡ Some u → written p d ≡ None → written q d ≡ Some w → c < d) → (o : Option Version) → written q d ≡ o → c < d
      by less before rest None is = history.newer q (un q less (omega arith)) c d u v (grows_to p q less before c u old) is new
      by less before rest (Some w) is = rest w old none is
