-- Applying an entry keeps the segments good.
use Rattle.std.proofs.Common.{◌≡◌, inl, inr, ◌∙◌, refl, sym, ap, subst, ℕ, suc, ◌<◌, ◌≤◌, ℤ, Bool, true, false, true≢false, cond, List, Option, Some, None, filter, length, arith}
use Rattle.std.specs.Option.{option_or}
use Rattle.column_block.specs.declared.cell.Version.{Version}
use Rattle.flash_types.specs.Ranges.{holds}
use Rattle.flash_types.specs.declared.range.HandleRange.{HandleRange}
use Rattle.committed_log.specs.Applied.{IsClosed, with_position}
use Rattle.committed_log.specs.Lawful.{IsLawful}
use Rattle.committed_log.specs.Laws.{touches}
use Rattle.committed_log.specs.Log.{Log}
use Rattle.committed_log.specs.ReadIndex.{clears_at}
use Rattle.committed_log.proofs.Faults.{both_true}
use Rattle.good_replica.specs.Effect.{added, clearing, holds_some, cleared_by, absorbed, clipped}
use Rattle.good_replica.specs.Front.{front, IsUncleared}
use Rattle.good_replica.specs.Good.{IsGoodOn, IsGoodAt}
use Rattle.good_replica.specs.Trail.{Segment, Puts, Clears, Cleared, Wrote, trail, step_on, versions_on, wrote_unless_empty, after_versions}
use Rattle.good_replica.specs.Versions.{written}
use Rattle.good_replica.proofs.Apply.{pushed, apply_write, apply_install}
use Rattle.good_replica.proofs.Closure.{next_front, none_between, no_later}
use Rattle.good_replica.proofs.Commits.{written_more, written_fresh, written_anew, clears_held, untouched_out, untouched_adds, untouched_unclear, history, still_to}
use Rattle.good_replica.proofs.Facts.{le_or}
use Rattle.good_replica.proofs.Fronts.{front_other, front_touches}
use Rattle.good_replica.proofs.Segments.{trail_some, trail_none, absorb_puts, versions_clipped, step_clipped}

module _ (log : Log) (lawful : IsLawful log) (A : ℕ → Bool) (closed : IsClosed log A) (p : ℕ) (free : A p ≡ false) (more : IsClosed log (with_position A p)) (m safe : ℕ) (s : Segment) (h : ℤ) (within : holds s.range h ≡ true) where
  -- a delete-range that doesn't hold the handle
  still_cleared : (o : Option HandleRange) → holds_some o h ≡ false → trail h (cleared_by o s) ≡ trail h s
  still_cleared None out = refl
  still_cleared (Some range) out = trail_none h s (clipped s.range (Clears range)) (step_clipped s.range h (Clears range) within ∙ ap (λ b. cond b (Some Cleared) None) out)

  range_same : (o : Option HandleRange) → (cleared_by o s).range ≡ s.range
  range_same None = refl
  range_same (Some range) = refl

  abbrev news : List Version
  news = versions_on h (added log p)

  -- the block, by the law for its versions of the handle
  with_block : (n : ℕ) → IsGoodAt (written log h) (clears_at log h) n m safe (pushed (trail h (cleared_by (clearing log p) s)) (Wrote news)) → IsGoodAt (written log h) (clears_at log h) n m safe (trail h (absorbed (clearing log p) (added log p) s))
  with_block n good = absorb_puts (written log h) (clears_at log h) n m safe h (cleared_by (clearing log p) s) (filter (λ (v : Version). holds s.range v.handle) (added log p))
      (subst (λ vs. IsGoodAt (written log h) (clears_at log h) n m safe (pushed (trail h (cleared_by (clearing log p) s)) (Wrote vs))) (sym (versions_clipped s.range h (added log p) within)) good)

  front_low : touches log h p ≡ true → front log A h ≤ p
  front_low t = elim (front_touches log h A (length log.entries)) [
    | inl none ↦ omega (arith, none)
    | inr r ↦ let both = both_true (A r.0) (touches log h r.0) r.3 in let less = no_later log lawful h A closed p free more t r.0 both.0 both.1 in omega (arith, r.1, less)
  ]

  touching : touches log h p ≡ true → (b : Bool) → holds_some (clearing log p) h ≡ b → IsGoodOn log h (front log A h) m safe (trail h s) → IsGoodOn log h (suc p) m safe (trail h (absorbed (clearing log p) (added log p) s))
  touching t true held good = with_block (suc p) (by (clearing log p) refl held)
    where
      by : (o : Option HandleRange) → clearing log p ≡ o → holds_some (clearing log p) h ≡ true → IsGoodAt (written log h) (clears_at log h) (suc p) m safe (pushed (trail h (cleared_by (clearing log p) s)) (Wrote news))
      by None is e = absurd (true≢false (sym (sym (ap (λ o. holds_some o h) is) ∙ e)))
      by (Some range) is e =
          let in_it : holds range h ≡ true = sym (ap (λ o. holds_some o h) is) ∙ e in
          let shape : trail h (cleared_by (clearing log p) s) ≡ pushed (trail h s) Cleared = ap (λ o. trail h (cleared_by o s)) is ∙ trail_some h s (clipped s.range (Clears range)) Cleared (step_clipped s.range h (Clears range) within ∙ ap (λ b. cond b (Some Cleared) None) in_it) in
          subst (λ t. IsGoodAt (written log h) (clears_at log h) (suc p) m safe (pushed t (Wrote news))) (sym shape) (apply_install (history log lawful h) p m safe (trail h s) news (written_anew log lawful h p e))
  touching t false out good = with_block (suc p) (subst (λ t. IsGoodAt (written log h) (clears_at log h) (suc p) m safe (pushed t (Wrote news))) (sym (still_cleared (clearing log p) out))
      (apply_write (history log lawful h) p m safe (trail h s) (front log A h) (front_low t) before news more_is fresh_is good))
    where
      f_le : front log A h ≤ p
      f_le = front_low t

      still : (ts : ℕ) → written log h p ts ≡ written log h (front log A h) ts
      still = still_to log lawful h (front log A h) p f_le (none_between log lawful h A closed p free more t)

      before : IsUncleared (clears_at log h) (front log A h) (suc p)
      before x a b = elim (le_or (suc x) p (omega (arith, b))) [
        | inl less ↦ untouched_unclear log lawful h x (none_between log lawful h A closed p free more t x a less)
        | inr same ↦ let e : x ≡ p = omega (arith, same) in ap (clears_at log h) e ∙ (clears_held log h p ∙ out)
      ]

      more_is : (ts : ℕ) → written log h (suc p) ts ≡ option_or (after_versions ts None news) (written log h (front log A h) ts)
      more_is ts = written_more log lawful h p out ts ∙ ap (option_or (after_versions ts None news)) (still ts)

      fresh_is : (c d : ℕ) (u v : Version) → written log h (front log A h) c ≡ Some u → after_versions d None news ≡ Some v → c < d
      fresh_is c d u v a b = written_fresh log lawful h p out c d u v (still c ∙ a) b

  pub apply_good : IsGoodOn log h (front log A h) m safe (trail h s) → IsGoodOn log h (front log (with_position A p) h) m safe (trail h (absorbed (clearing log p) (added log p) s))
  apply_good good = by (touches log h p) refl
    where
      by : (b : Bool) → touches log h p ≡ b → IsGoodOn log h (front log (with_position A p) h) m safe (trail h (absorbed (clearing log p) (added log p) s))
      by true t = subst (λ n. IsGoodOn log h n m safe (trail h (absorbed (clearing log p) (added log p) s))) (sym (next_front log lawful h A closed p free more t)) (touching t (holds_some (clearing log p) h) refl good)
      by false t =
          let none : step_on h (clipped s.range (Puts (added log p))) ≡ None = step_clipped s.range h (Puts (added log p)) within ∙ ap wrote_unless_empty (untouched_adds log lawful h p t) in
          let same : trail h (absorbed (clearing log p) (added log p) s) ≡ trail h s = trail_none h (cleared_by (clearing log p) s) (clipped s.range (Puts (added log p))) none ∙ still_cleared (clearing log p) (untouched_out log lawful h p t) in
          subst (λ n. IsGoodOn log h n m safe (trail h (absorbed (clearing log p) (added log p) s))) (sym (front_other log h A p (length log.entries) t)) (subst (IsGoodOn log h (front log A h) m safe) (sym same) good)
