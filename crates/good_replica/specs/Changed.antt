-- What flushes, compactions, delta merges, splits and merges of segments do to the files.
use Rattle.std.specs.Prelude.{◌≡◌, ◌⊎◌, ℕ, ℤ, Some, None, List, [], ◌∷◌, drop}
use Rattle.column_block.specs.declared.cell.Version.{Version}
use Rattle.flash_types.specs.declared.range.HandleRange.{HandleRange}
use Rattle.good_replica.specs.Good.{IsPassed, IsLoneDelete}
use Rattle.good_replica.specs.Trail.{Trail, Step, Segment, DeltaFile, present, step_on, steps_on, versions_on, after_versions, after_steps, write}
use Rattle.good_replica.specs.Versions.{Versions}

abbrev pub of_parts : HandleRange → List Version → List DeltaFile → Segment
of_parts range stable delta = record { range = range; stable = stable; delta = delta }

-- what a list of versions has of a handle
abbrev pub had : ℤ → List Version → Versions
had h versions ts = after_versions ts None (versions_on h versions)

-- what a stable part and the first files of a delta, as a build sees them, have of a handle
abbrev pub view : ℤ → List Version → List DeltaFile → Versions
view h stable taken ts = after_steps ts (had h stable ts) (steps_on h taken)

-- the trail of these versions and steps; what a stable part and steps have of their handle, and what a stable part alone has
abbrev pub trail_of : List Version → List Step → Trail
trail_of stable steps = record { stable = stable; steps = steps }

abbrev pub seen : List Version → List Step → Versions
seen stable taken ts = after_steps ts (after_versions ts None stable) taken

abbrev pub left : List Version → Versions
left new ts = after_versions ts None new

-- Packed anew: the same versions are present, and what one of the tails of the new delta writes a tail of the old one wrote. (A compaction changes the number of files.)
pub record ShowsSame (t u : Trail) : Type 0 where
  pub same : (ts : ℕ) → present u ts ≡ present t ts
  pub rests : (k : ℕ) → (j : ℕ) × ((ts : ℕ) → write ts (drop k u.steps) ≡ write ts (drop j t.steps))

-- Collected at a safe point: versions are left out that no read from there on can miss.
pub record IsCollected (safe : ℕ) (before after : Versions) : Type 0 where
  pub kept : (ts : ℕ) → (after ts ≡ None) ⊎ (after ts ≡ before ts)
  pub gone : (ts : ℕ) (v : Version) → before ts ≡ Some v → (after ts ≡ Some v) ⊎ (IsPassed before safe ts ⊎ IsLoneDelete after safe ts v)

-- none of the files speaks of the handle
abbrev pub SaysNothing : ℤ → List DeltaFile → Type 0
SaysNothing h [] = Unit {0}
SaysNothing h (f ∷ fs) = (step_on h f ≡ None) × SaysNothing h fs
