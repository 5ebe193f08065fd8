-- What is there at each count, from the committed one to the last, is good for the entries up to it. So a crash leaves what is good, whichever count it leaves.
use Rattle.std.specs.Prelude.{◌≡◌, ◌≤◌, ◌<◌, ◌||◌, ◌==◌, ℕ, Bool, true, List, map, take}
use Rattle.std.specs.List.{list_any}
use Rattle.committed_log.specs.Laws.{IsInside}
use Rattle.committed_log.specs.Log.{Log}
use Rattle.good_replica.specs.Good.{AreGood, IsGoodSegment}
use Rattle.prefix_laws.specs.Tagged.{TaggedSegment, content}

-- ---- what was applied, count by count

-- The positions that were applied at the opening, and the first k of those that were applied since, in order.
abbrev pub upto : (ℕ → Bool) → List ℕ → ℕ → ℕ → Bool
upto opened listed k p = opened p || list_any (λ (q : ℕ). p == q) (take k listed)

-- The set of each count is inside that of each later one, and each position of the last is below the mark.
pub record AreSteps (S : ℕ → ℕ → Bool) (m last : ℕ) : Type 0 where
  pub grow : (j k : ℕ) → j ≤ k → IsInside (S j) (S k)
  pub below : (x : ℕ) → S last x ≡ true → x < m

-- ---- good at each count

-- a segment
abbrev pub IsPrefixGood : Log → (ℕ → ℕ → Bool) → ℕ → ℕ → ℕ → ℕ → TaggedSegment → Type 0
IsPrefixGood log S m safe from last s = (k : ℕ) → from ≤ k → k ≤ last → IsGoodSegment log (S k) m safe (content k s)

-- the segments of a replica
abbrev pub ArePrefixesGood : Log → (ℕ → ℕ → Bool) → ℕ → ℕ → ℕ → ℕ → List TaggedSegment → Type 0
ArePrefixesGood log S m safe from last segments = (k : ℕ) → from ≤ k → k ≤ last → AreGood log (S k) m safe (map (content k) segments)
