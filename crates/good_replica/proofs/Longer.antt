-- What is good for a log is good for each longer one.
use Rattle.std.proofs.Common.{◌≡◌, inl, inr, ◌∙◌, refl, sym, ap, subst, ℕ, zero, suc, ◌<◌, ◌≤◌, max, ℤ, Bool, false, cond, ◌&&◌, ◌||◌, List, [], ◌∷◌, ◌++◌, Some, None, option_map, arith, length, length-append}
use Rattle.std.specs.List.{list_any}
use Rattle.log_codec.specs.declared.entry.Entry.{Entry}
use Rattle.committed_log.specs.Laws.{longer, owns, touches}
use Rattle.committed_log.specs.Log.{Log}
use Rattle.committed_log.specs.ReadIndex.{clears, clears_at}
use Rattle.committed_log.specs.Regions.{also_acted}
use Rattle.committed_log.specs.Store.{Store}
use Rattle.committed_log.proofs.Longer.{at_same, get_longer}
use Rattle.good_replica.specs.Front.{front, front_below}
use Rattle.good_replica.specs.Good.{AreGood, IsGoodOn, IsGoodFor, IsGoodSegment, EachGood}
use Rattle.good_replica.specs.Trail.{Trail, Segment, trail}
use Rattle.good_replica.specs.Versions.{Versions, version_of, written}
use Rattle.good_replica.proofs.Commits.{found}
use Rattle.good_replica.proofs.Facts.{le_or}
use Rattle.good_replica.proofs.Fronts.{front_length}

module _ (log : Log) (more : List Entry) (h : ℤ) where
  written_same : (p : ℕ) → p ≤ length log.entries → written (longer log more) h p ≡ written log h p
  written_same p le = ap {B = Versions} (λ (s : Store). λ ts. option_map (version_of log.schema) (found h s.commits ts)) (at_same log more p le)

  touches_same : (p : ℕ) → p < length log.entries → touches (longer log more) h p ≡ touches log h p
  touches_same p less = (λ i. elim (get_longer log more p less i) [ None ↦ false | Some e ↦ list_any (λ r. owns (at_same log more p (omega (arith, less)) i).regions r h || owns (at_same log more (suc p) (omega (arith, less)) i).regions r h) (e.region ∷ also_acted e.body) ])

  clears_same : (p : ℕ) → p < length log.entries → clears_at (longer log more) h p ≡ clears_at log h p
  clears_same p less = (λ i. elim (get_longer log more p less i) [ None ↦ false | Some e ↦ clears (at_same log more p (omega (arith, less)) i).regions h e.region e.body ])

  pub good_longer : (f m safe : ℕ) (t : Trail) → f ≤ length log.entries → m ≤ length log.entries → IsGoodOn log h f m safe t → IsGoodOn (longer log more) h f m safe t
  good_longer f m safe t low high good un =
      let top : max f m ≤ length log.entries = omega (arith, low, high) in
      subst (λ w. IsGoodFor w (written (longer log more) h (max f m)) safe t) (sym (written_same f low)) (subst (λ w. IsGoodFor (written log h f) w safe t) (sym (written_same (max f m) top)) (good (λ p a b. sym (clears_same p (omega (arith, b, high))) ∙ un p a b)))

  module _ (A : ℕ → Bool) (within : (x : ℕ) → length log.entries ≤ x → A x ≡ false) where
    front_low : (n : ℕ) → n ≤ length log.entries → front_below (longer log more) A h n ≡ front_below log A h n
    front_low zero le = refl
    front_low (suc n) le = (let rest = front_low n (omega (arith, le)) in (λ i. cond (A n && touches_same n (omega (arith, le)) i) (suc n) (rest i)))

    front_up : (n : ℕ) → length log.entries ≤ n → front_below (longer log more) A h n ≡ front_below (longer log more) A h (length log.entries)
    front_up zero le = (let e : 0 ≡ length log.entries = omega (arith, le) in ap (front_below (longer log more) A h) e)
    front_up (suc n) le = elim (le_or (length log.entries) n le) [
      | inl low ↦ (λ i. cond (within n low i && touches (longer log more) h n) (suc n) (front_below (longer log more) A h n)) ∙ front_up n low
      | inr same ↦ ap (front_below (longer log more) A h) (sym same)
    ]

    pub front_longer : front (longer log more) A h ≡ front log A h
    front_longer = front_up (length (log.entries ++ more)) (omega (arith, length-append log.entries more)) ∙ front_low (length log.entries) (omega arith)

module _ (log : Log) (more : List Entry) (A : ℕ → Bool) (within : (x : ℕ) → length log.entries ≤ x → A x ≡ false) (m safe : ℕ) where
  segment_longer : m ≤ length log.entries → (s : Segment) → IsGoodSegment log A m safe s → IsGoodSegment (longer log more) A m safe s
  segment_longer high s good h in_it = subst (λ f. IsGoodOn (longer log more) h f m safe (trail h s)) (sym (front_longer log more h A within))
      (good_longer log more h (front log A h) m safe (trail h s) (front_length log h A) high (good h in_it))

  pub each_longer : m ≤ length log.entries → (ss : List Segment) → EachGood log A m safe ss → EachGood (longer log more) A m safe ss
  each_longer high [] good = tt
  each_longer high (s ∷ ss) good = (segment_longer high s good.0, each_longer high ss good.1)

  pub all_longer : (ss : List Segment) → AreGood log A m safe ss → AreGood (longer log more) A m safe ss
  all_longer ss good = record { cover = good.cover; mark = omega (arith, good.mark, length-append log.entries more); handles = each_longer good.mark ss good.handles }
