-- What keeps a handle good.
use Rattle.std.proofs.Common.{◌≡◌, ◌⊎◌, inl, inr, ◌∙◌, refl, sym, subst, ℕ, ◌≤◌, max, Bool, Option, Some, None, arith}
use Rattle.column_block.specs.declared.cell.Version.{Version}
use Rattle.good_replica.specs.Changed.{ShowsSame}
use Rattle.good_replica.specs.Good.{IsGoodAt, IsGoodFor, IsPassed}
use Rattle.good_replica.specs.Trail.{Trail}
use Rattle.good_replica.specs.Versions.{Versions}
use Rattle.good_replica.proofs.History.{IsHistory, grows_to}

-- a fact of an option, by what it is
pub shown_or_not : (o : Option Version) → (o ≡ None) ⊎ ((v : Version) × (o ≡ Some v))
shown_or_not None = inl refl
shown_or_not (Some v) = inr (v, refl)

module _ (all : Versions) (more : Versions) (grown : (ts : ℕ) (v : Version) → all ts ≡ Some v → more ts ≡ Some v) where
  pub passed_more : (safe ts : ℕ) → IsPassed all safe ts → IsPassed more safe ts
  passed_more safe ts h = (h.0, h.1, h.2, h.3, grown h.0 h.1 h.4)

-- a higher mark
module _ {written : ℕ → Versions} {clears : ℕ → Bool} (history : IsHistory written clears) where
  pub mark_up : (f m n safe : ℕ) (t : Trail) → m ≤ n → IsGoodAt written clears f m safe t → IsGoodAt written clears f n safe t
  mark_up f m n safe t le old un =
      let good = old (λ p a b. un p a (omega (arith, b, le))) in
      let grown : (ts : ℕ) (v : Version) → written (max f m) ts ≡ Some v → written (max f n) ts ≡ Some v = grows_to history (max f m) (max f n) (omega (arith, le)) (λ p a b. un p (omega (arith, a)) (omega (arith, a, b))) in
      record {
        real = λ ts v e. grown ts v (good.real ts v e);
        kept = λ ts v e. elim (good.kept ts v e) [
          | inl there ↦ inl there
          | inr or ↦ inr (elim or [ inl passed ↦ inl (passed_more (written (max f m)) (written (max f n)) grown safe ts passed) | inr lone ↦ inr lone ])
        ];
        ordered = good.ordered;
      }

  -- a lower front, below the mark
  pub front_down : (k f m safe : ℕ) (t : Trail) → k ≤ f → f ≤ m → IsGoodAt written clears f m safe t → IsGoodAt written clears k m safe t
  front_down k f m safe t low high old un =
      let good = old (λ p a b. un p (omega (arith, a, low)) b) in
      let same : max f m ≡ max k m = omega (arith, low, high) in
      let grown : (ts : ℕ) (v : Version) → written k ts ≡ Some v → written f ts ≡ Some v = grows_to history k f low (λ p a b. un p a (omega (arith, b, high))) in
      subst (λ n. IsGoodFor (written k) (written n) safe t) same (record {
        real = good.real;
        kept = λ ts v e. good.kept ts v (grown ts v e);
        ordered = λ n c d u v less a b. good.ordered n c d u v less (grown c u a) (grown d v b);
      })

-- a higher safe point
pub safe_up : (written : ℕ → Versions) (clears : ℕ → Bool) (f m safe higher : ℕ) (t : Trail) → safe ≤ higher → IsGoodAt written clears f m safe t → IsGoodAt written clears f m higher t
safe_up written clears f m safe higher t le old un =
    let good = old un in
    record {
      real = good.real;
      kept = λ ts v e. elim (good.kept ts v e) [
        | inl there ↦ inl there
        | inr or ↦ inr (elim or [ inl h ↦ inl (h.0, h.1, h.2, omega (arith, h.3, le), h.4) | inr h ↦ inr (h.0, omega (arith, h.1, le), h.2) ])
      ];
      ordered = good.ordered;
    }

-- packed anew
pub repack : (written : ℕ → Versions) (clears : ℕ → Bool) (f m safe : ℕ) (t u : Trail) → ShowsSame t u → IsGoodAt written clears f m safe t → IsGoodAt written clears f m safe u
repack written clears f m safe t u shows old un =
    let good = old un in
    record {
      real = λ ts v e. good.real ts v (sym (shows.same ts) ∙ e);
      kept = λ ts v e. elim (good.kept ts v e) [
        | inl there ↦ inl (shows.same ts ∙ there)
        | inr or ↦ inr (elim or [ inl h ↦ inl h | inr h ↦ inr (h.0, h.1, λ older less. shows.same older ∙ h.2 older less) ])
      ];
      ordered = λ k c d v w less a b has.
          let rest = shows.rests k in
          rest.1 d ∙ good.ordered rest.0 c d v w less a b (sym (rest.1 c) ∙ has);
    }
