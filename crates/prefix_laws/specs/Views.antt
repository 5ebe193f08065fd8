-- The files that a build took of a segment, those behind them, and what a new stable part has of them.
use Rattle.std.specs.Prelude.{◌≡◌, ◌⊎◌, ◌≤◌, ◌<◌, ℕ, ℤ, true, false, Some, List, [], ◌∷◌, ◌++◌, map}
use Rattle.std.specs.List.{AllByRecursion}
use Rattle.column_block.specs.declared.cell.Version.{Version}
use Rattle.flash_types.specs.Ranges.{has_any, holds}
use Rattle.flash_types.specs.declared.range.HandleRange.{HandleRange}
use Rattle.good_replica.specs.Changed.{IsCollected, had, view}
use Rattle.good_replica.specs.Trail.{DeltaFile}
use Rattle.prefix_laws.specs.Clipped.{in_order}
use Rattle.prefix_laws.specs.Tagged.{Tagged, TaggedSegment, file_in, tagged_of}

-- ---- counts of files

-- each of the files had come by this count
abbrev pub AreBy : ℕ → List Tagged → Type 0
AreBy at files = AllByRecursion (λ (f : Tagged). f.tag ≤ at) files

abbrev pub AllBy : ℕ → List TaggedSegment → Type 0
AllBy at segments = AllByRecursion (λ (s : TaggedSegment). AreBy at s.files) segments

-- each of the files came later, or is named, as its count tells
abbrev pub AreLaterOrNamed : ℕ → ℕ → List Tagged → Type 0
AreLaterOrNamed from at files = AllByRecursion (λ (f : Tagged). (f.tag ≤ from) ⊎ (at < f.tag)) files

-- A view was taken at a count between the committed and the last one: its files had come by then, and each of the others came later or is named.
pub record IsTakenAt (from last at : ℕ) (taken rest : List Tagged) : Type 0 where
  pub begins : from ≤ at
  pub ends : at ≤ last
  pub by : AreBy at taken
  pub later : AreLaterOrNamed from at rest

-- Files by some number and no later than the last count, and behind them files that are named, or have a count above the number and above the committed one.
pub record IsTaken (from last k : ℕ) (taken rest : List Tagged) : Type 0 where
  pub by : AreBy k taken
  pub known : AreBy last taken
  pub later : AllByRecursion (λ (f : Tagged). (f.tag ≤ from) ⊎ ((from < f.tag) × (k < f.tag))) rest

-- One for one the same parts, with other counts up to this one: all that is there by then.
abbrev pub AreRetagged : ℕ → List TaggedSegment → List TaggedSegment → Type 0
AreRetagged at [] [] = Unit {0}
AreRetagged at [] (t ∷ ts) = ⊥
AreRetagged at (s ∷ ss) [] = ⊥
AreRetagged at (s ∷ ss) (t ∷ ts) = ((t.range ≡ s.range) × (t.stable ≡ s.stable) × (map file_in t.files ≡ map file_in s.files) × AreBy at t.files) × AreRetagged at ss ts

-- ---- two segments that become one

-- One of the two: its range, its stable part, the files that its view took, and those behind them, named or not.
pub record Side : Type 0 where
  pub range : HandleRange
  pub stable : List Version
  pub taken : List Tagged
  pub named : List Tagged
  pub more : List Tagged

abbrev pub behind : Side → List Tagged
behind s = s.named ++ s.more

abbrev pub segment_of : Side → TaggedSegment
segment_of s = tagged_of s.range s.stable (s.taken ++ behind s)

-- the files of the one that they become
abbrev pub rest_of : Side → Side → List Tagged
rest_of left right = in_order left.range right.range left.named right.named left.more right.more

-- ---- what a new stable part has

-- of each handle of a range, what the stable part and the files have
abbrev pub HasAllOf : HandleRange → List Version → List DeltaFile → List Version → Type 0
HasAllOf range stable files new = (h : ℤ) (ts : ℕ) → holds range h ≡ true → had h new ts ≡ view h stable files ts

-- of each handle of a range, a collection of that at a safe point
abbrev pub HasCollectionOf : ℕ → HandleRange → List Version → List DeltaFile → List Version → Type 0
HasCollectionOf safe range stable files new = (h : ℤ) → holds range h ≡ true → IsCollected safe (view h stable files) (had h new)

-- ---- ranges

-- each handle of the one is a handle of the other
abbrev pub IsWithin : HandleRange → HandleRange → Type 0
IsWithin part whole = (h : ℤ) → holds part h ≡ true → holds whole h ≡ true

-- each handle of the whole is one of the left part or one of the right part, and of one alone
abbrev pub EachOfOne : HandleRange → HandleRange → HandleRange → Type 0
EachOfOne left right whole = (h : ℤ) → holds whole h ≡ true → ((holds left h ≡ true) × (holds right h ≡ false)) ⊎ ((holds right h ≡ true) × (holds left h ≡ false))

-- two ranges that aren't empty meet in a third one
pub record IsParted (whole lower upper : HandleRange) : Type 0 where
  pub begins : lower.low ≡ whole.low
  pub meets : lower.high ≡ Some upper.low
  pub ends : upper.high ≡ whole.high
  pub below : has_any lower ≡ true
  pub above : has_any upper ≡ true
