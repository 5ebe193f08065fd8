-- The laws for lists of segments.
use Rattle.std.proofs.Common.{◌≡◌, ◌∙◌, refl, sym, ap, subst, ℕ, suc, zero, ◌<◌, ◌≤◌, ℤ, Bool, true, false, List, [], ◌∷◌, ◌++◌, Option, Some, None, map, length}
use Rattle.flash_types.specs.Ranges.{holds, is_below}
use Rattle.flash_types.specs.declared.range.HandleRange.{HandleRange}
use Rattle.committed_log.specs.Log.{Log}
use Rattle.committed_log.specs.Lawful.{IsLawful}
use Rattle.committed_log.specs.Applied.{IsClosed}
use Rattle.committed_log.specs.Applied.{with_position}
use Rattle.column_block.specs.declared.cell.Version.{Version}
use Rattle.committed_log.specs.ReadIndex.{clears_at}
use Rattle.good_replica.specs.Effect.{added, clearing, absorbed}
use Rattle.good_replica.specs.Front.{front, front_below}
use Rattle.good_replica.specs.Good.{IsGoodSegment, EachGood, IsGoodOn, AreGood, CoversFrom, least_handle}
use Rattle.good_replica.specs.Trail.{Segment, trail}
use Rattle.good_replica.specs.Versions.{written}
use Rattle.good_replica.proofs.Commits.{history}
use Rattle.good_replica.proofs.Kept.{mark_up, front_down, safe_up}
use Rattle.good_replica.proofs.Fronts.{front_within, front_under}
use Rattle.good_replica.proofs.Applying.{apply_good}

absorbed_range : (o : Option HandleRange) (vs : List Version) (s : Segment) → (absorbed o vs s).range ≡ s.range
absorbed_range None vs s = refl
absorbed_range (Some range) vs s = refl

-- each segment in its place
pub each : (log : Log) (A B : ℕ → Bool) (m n safe higher : ℕ) (f : Segment → Segment) → ((s : Segment) → IsGoodSegment log A m safe s → IsGoodSegment log B n higher (f s)) → (ss : List Segment) → EachGood log A m safe ss → EachGood log B n higher (map f ss)
each log A B m n safe higher f law [] good = tt
each log A B m n safe higher f law (s ∷ ss) good = (law s good.0, each log A B m n safe higher f law ss good.1)

-- some segments in a list give way to others
pub replaced : (log : Log) (A : ℕ → Bool) (m safe : ℕ) (before old new after : List Segment) → (EachGood log A m safe old → EachGood log A m safe new) → EachGood log A m safe (before ++ (old ++ after)) → EachGood log A m safe (before ++ (new ++ after))
replaced log A m safe (s ∷ before) old new after law good = (good.0, replaced log A m safe before old new after law good.1)
replaced log A m safe [] old new after law good = joined new (law (firsts old good)) (lasts old good)
  where
    firsts : (old : List Segment) → EachGood log A m safe (old ++ after) → EachGood log A m safe old
    firsts [] g = tt
    firsts (s ∷ old) g = (g.0, firsts old g.1)

    lasts : (old : List Segment) → EachGood log A m safe (old ++ after) → EachGood log A m safe after
    lasts [] g = g
    lasts (s ∷ old) g = lasts old g.1

    joined : (new : List Segment) → EachGood log A m safe new → EachGood log A m safe after → EachGood log A m safe (new ++ after)
    joined [] g a = a
    joined (s ∷ new) g a = (g.0, joined new g.1 a)

pub safe_up_each : (log : Log) (A : ℕ → Bool) (m safe higher : ℕ) (ss : List Segment) → safe ≤ higher → EachGood log A m safe ss → EachGood log A m higher ss
safe_up_each log A m safe higher [] le good = tt
safe_up_each log A m safe higher (s ∷ ss) le good = ((λ h in_it. safe_up (written log h) (clears_at log h) (front log A h) m safe higher (trail h s) le (good.0 h in_it)), safe_up_each log A m safe higher ss le good.1)

-- segments that keep their ranges cover what they covered
covers_same : (f : Segment → Segment) → ((s : Segment) → (f s).range ≡ s.range) → (low : ℤ) (ss : List Segment) → CoversFrom low ss → CoversFrom low (map f ss)
covers_same f same low [] c = c
covers_same f same low (s ∷ []) c = (ap (λ (r : HandleRange). r.low) (same s) ∙ c.0, ap (λ (r : HandleRange). r.high) (same s) ∙ c.1)
covers_same f same low (s ∷ t ∷ more) c = (
  ap (λ (r : HandleRange). r.low) (same s) ∙ c.0,
  ap (λ (r : HandleRange). r.high) (same s) ∙ c.1 ∙ ap (λ (r : HandleRange). Some r.low) (sym (same t)),
  ap (λ (r : HandleRange). is_below r.low r.high) (same s) ∙ c.2,
  subst (λ z. CoversFrom z (map f (t ∷ more))) (sym (ap (λ (r : HandleRange). r.low) (same t))) (covers_same f same t.range.low (t ∷ more) c.3),
)

module _ (log : Log) (lawful : IsLawful log) where
  -- an apply: each segment takes its part
  pub apply_each : (A : ℕ → Bool) → IsClosed log A → (p : ℕ) → A p ≡ false → IsClosed log (with_position A p) → (m safe : ℕ) (ss : List Segment) → EachGood log A m safe ss → EachGood log (with_position A p) m safe (map (absorbed (clearing log p) (added log p)) ss)
  apply_each A closed p free more m safe = each log A (with_position A p) m m safe safe (absorbed (clearing log p) (added log p))
      (λ s good h in_it. let within : holds s.range h ≡ true = ap (λ r. holds r h) (sym (absorbed_range (clearing log p) (added log p) s)) ∙ in_it in apply_good log lawful A closed p free more m safe s h within (good h within))

  pub apply_all : (A : ℕ → Bool) → IsClosed log A → (p : ℕ) → A p ≡ false → IsClosed log (with_position A p) → (m safe : ℕ) (ss : List Segment) → AreGood log A m safe ss → AreGood log (with_position A p) m safe (map (absorbed (clearing log p) (added log p)) ss)
  apply_all A closed p free more m safe ss good = record {
    cover = covers_same (absorbed (clearing log p) (added log p)) (absorbed_range (clearing log p) (added log p)) least_handle ss good.cover;
    mark = good.mark;
    handles = apply_each A closed p free more m safe ss good.handles;
  }

  map_same : (ss : List Segment) → map (λ s. s) ss ≡ ss
  map_same [] = refl
  map_same (s ∷ ss) = ap (λ rest. s ∷ rest) (map_same ss)

  -- a higher mark, as the next commit or opening gives
  pub mark_up_each : (A : ℕ → Bool) (m n safe : ℕ) (ss : List Segment) → m ≤ n → EachGood log A m safe ss → EachGood log A n safe ss
  mark_up_each A m n safe ss le good = subst (EachGood log A n safe) (map_same ss) (each log A A m n safe safe (λ s. s) (λ s g h in_it. mark_up (history log lawful h) (front log A h) m n safe (trail h s) le (g h in_it)) ss good)

  -- fewer positions, where the mark is past all of the set's
  pub front_down_each : (A B : ℕ → Bool) (m safe : ℕ) (ss : List Segment) → ((x : ℕ) → A x ≡ true → B x ≡ true) → ((h : ℤ) → front log B h ≤ m) → EachGood log B m safe ss → EachGood log A m safe ss
  front_down_each A B m safe ss within high good = subst (EachGood log A m safe) (map_same ss) (each log B A m m safe safe (λ s. s) (λ s g h in_it. front_down (history log lawful h) (front log A h) (front log B h) m safe (trail h s) (front_within log h A B (length log.entries) within) (high h) (g h in_it)) ss good)

  -- where the mark isn't below one past each position of the set
  pub fewer_each : (A B : ℕ → Bool) (m safe : ℕ) (ss : List Segment) → ((x : ℕ) → A x ≡ true → B x ≡ true) → ((x : ℕ) → B x ≡ true → x < m) → EachGood log B m safe ss → EachGood log A m safe ss
  fewer_each A B m safe ss within under good = front_down_each A B m safe ss within (λ h. front_under log h B (length log.entries) m under) good

-- nothing is applied, and nothing is there
pub empty_good : (log : Log) (m safe : ℕ) (range : HandleRange) → IsGoodSegment log (λ _. false) m safe (record { range = range; stable = []; delta = [] })
empty_good log m safe range h in_it = subst (λ f. IsGoodOn log h f m safe (record { stable = []; steps = [] })) (sym (none (length log.entries))) good
  where
    none : (n : ℕ) → front_below log (λ _. false) h n ≡ 0
    none zero = refl
    none (suc n) = none n

    good : IsGoodOn log h 0 m safe (record { stable = []; steps = [] })
    good un = record { real = λ ts v e. cc e; kept = λ ts v e. cc e; ordered = λ k c d u v less a b has. cc a }
