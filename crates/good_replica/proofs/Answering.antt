-- A settled region's handles show what the row store shows at the index where the applied entries leave the region.
use Rattle.std.proofs.Common.{◌≡◌, ◌⊎◌, inl, inr, ◌∙◌, refl, sym, ap, subst, ℕ, suc, ◌<◌, ◌≤◌, ℤ, Bool, true, false, true≢false, not, ◌&&◌, List, [], Option, Some, None, option_map, nat_lt, length, arith}
use Rattle.std.proofs.lemmas.Option.{slice_get_within}
use Rattle.flash_types.specs.Ranges.{holds}
use Rattle.flash_types.specs.declared.range.HandleRange.{HandleRange}
use Rattle.committed_log.specs.Applied.{IsClosed, acts_at, left_at, place, applied, next, unsettled, is_settled}
use Rattle.committed_log.specs.Lawful.{IsLawful}
use Rattle.committed_log.specs.Laws.{owned, owns}
use Rattle.committed_log.specs.Log.{Log, at}
use Rattle.committed_log.specs.Reads.{cells, commits_at, shown}
use Rattle.committed_log.specs.Regions.{range_of, index_of}
use Rattle.committed_log.specs.declared.region.Region.TheVariants.{Unborn}
use Rattle.committed_log.specs.declared.store.Commit.{Commit}
use Rattle.committed_log.proofs.Closed.{acting_entry, applied_cases}
use Rattle.committed_log.proofs.Faults.{both_true}
use Rattle.committed_log.proofs.Places.{place_left}
use Rattle.committed_log.proofs.Positions.{IsLeast, IsGreatest, Finds, find_least}
use Rattle.good_replica.specs.Front.{front}
use Rattle.good_replica.specs.Good.{IsGoodOn}
use Rattle.good_replica.specs.Shows.{Shows}
use Rattle.good_replica.specs.Trail.{Trail, present}
use Rattle.good_replica.proofs.Facts.{and_true}
use Rattle.good_replica.proofs.Reading.{read_good}

-- below the mark of a settled region all is applied that acts on it
below_mark : (log : Log) (A : ℕ → Bool) (r m : ℕ) → is_settled log A m r ≡ true → (x : ℕ) → x < m → acts_at log r x ≡ true → A x ≡ true
below_mark log A r m settled x less acts = by (A x) refl (next log A r) refl (find_least (λ p. not (A p) && acts_at log r p) (length log.entries))
  where
    low : x < length log.entries
    low = (let e = acting_entry log r x acts in slice_get_within log.entries x e.0 e.1)

    waits : A x ≡ false → (not (A x) && acts_at log r x) ≡ true
    waits out = and_true (not (A x)) (acts_at log r x) (ap not out) acts

    either : (x p : ℕ) → (x < p) ⊎ (p ≤ x)
    either x p = grind arith

    is_lt : (p : ℕ) → p < m → nat_lt p m ≡ true
    is_lt p less = grind (arith, less)

    at_least : (p : ℕ) → next log A r ≡ Some p → A x ≡ false → IsLeast (λ p. not (A p) && acts_at log r p) (length log.entries) p → A x ≡ true
    at_least p is out least = elim (either x p) [
      | inl before ↦ absurd (true≢false (sym (waits out) ∙ least.first x before))
      | inr le ↦ absurd (true≢false (sym settled ∙ ap (λ o. not (unsettled o m)) is ∙ ap not (is_lt p (omega (arith, le, less)))))
    ]

    by : (b : Bool) → A x ≡ b → (o : Option ℕ) → next log A r ≡ o → Finds (λ p. not (A p) && acts_at log r p) (length log.entries) (next log A r) → A x ≡ true
    by true is o next_is finds = is
    by false is None next_is finds = absurd (true≢false (sym (waits is) ∙ subst (Finds (λ p. not (A p) && acts_at log r p) (length log.entries)) next_is finds x low))
    by false is (Some p) next_is finds = at_least p next_is is (subst (Finds (λ p. not (A p) && acts_at log r p) (length log.entries)) next_is finds)

module _ (log : Log) (lawful : IsLawful log) (A : ℕ → Bool) (closed : IsClosed log A) (r i m safe ts : ℕ) (range : HandleRange) (there : range_of (applied log A r) ≡ Some range) (index : index_of (applied log A r) ≡ Some i) (settled : is_settled log A m r ≡ true) (h : ℤ) (t : Trail) (held : holds range h ≡ true) (above : safe ≤ ts) (good : IsGoodOn log h (front log A h) m safe t) where
  at_last : (q : ℕ) → IsGreatest (λ p. A p && acts_at log r p) (length log.entries) q → applied log A r ≡ left_at log r q → Shows (present t) ts (option_map (cells log.schema) (shown (commits_at log r i) ts h))
  at_last q greatest is =
      subst (λ (cs : List Commit). Shows (present t) ts (option_map (cells log.schema) (shown cs ts h))) (sym (ap (λ o. elim o [ None ↦ [] | Some p ↦ (at log (suc p)).commits ]) placed))
      (read_good log lawful h r q own A closed parts.0 parts.1 last m safe ts t (below_mark log A r m settled) above good)
    where
      parts : (A q ≡ true) × (acts_at log r q ≡ true)
      parts = both_true (A q) (acts_at log r q) greatest.passes

      placed : place log r i ≡ Some q
      placed = place_left log lawful r q i range (both_true (A q) (acts_at log r q) greatest.passes).1 (ap range_of (sym is) ∙ there) (ap index_of (sym is) ∙ index)

      own : owns (at log (suc q)).regions r h ≡ true
      own = ap (λ s. owned s h) (sym is) ∙ ap (λ o. elim o [ None ↦ false | Some range ↦ holds range h ]) there ∙ held

      order : (x q : ℕ) → (x ≤ q) ⊎ (q < x)
      order x q = grind arith

      last : (x : ℕ) → A x ≡ true → acts_at log r x ≡ true → x ≤ q
      last x a acts = elim (order x q) [ inl le ↦ le | inr more ↦ absurd (true≢false (sym (and_true (A x) (acts_at log r x) a acts) ∙ greatest.later x more (closed.within x a))) ]

  pub settled_shows : Shows (present t) ts (option_map (cells log.schema) (shown (commits_at log r i) ts h))
  settled_shows = by (applied_cases log A r)
    where
      by : (((q : ℕ) → q < length log.entries → (A q && acts_at log r q) ≡ false) × (applied log A r ≡ Unborn)) ⊎ ((q : ℕ) × IsGreatest (λ p. A p && acts_at log r p) (length log.entries) q × (applied log A r ≡ left_at log r q)) → Shows (present t) ts (option_map (cells log.schema) (shown (commits_at log r i) ts h))
      by (inl none) = cc (sym (ap range_of none.1) ∙ there)
      by (inr some) = at_last some.0 some.1 some.2
