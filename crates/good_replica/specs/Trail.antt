-- What a segment says of one handle. A segment is a level of an LSM tree for a range of handles: a stable part, and above it the files of a delta, the oldest first.
use Rattle.std.specs.Prelude.{ℕ, ℤ, Bool, false, Option, Some, None, List, [], ◌∷◌, ◌==◌, filter, fold, if◌then◌else◌}
use Rattle.std.specs.List.{filter_map, list_any}
use Rattle.std.specs.Ordering.{int_eq}
use Rattle.column_block.specs.declared.cell.Version.{Version}
use Rattle.flash_types.specs.Ranges.{holds}
use Rattle.flash_types.specs.declared.range.HandleRange.{HandleRange}
use Rattle.good_replica.specs.Versions.{Versions}

-- A file of a delta: versions of rows, or a delete-range, under which nothing of its handles stays.
pub data DeltaFile : Type 0 where
  Puts : List Version → DeltaFile
  Clears : HandleRange → DeltaFile

-- the handles of a segment, its stable versions, and its delta
pub record Segment : Type 0 where
  pub range : HandleRange
  pub stable : List Version
  pub delta : List DeltaFile

-- ---- the trail of a handle

-- what one delta file says of a handle: nothing of it stays, or it has these versions
pub data Step : Type 0 where
  Cleared : Step
  Wrote : List Version → Step

-- The stable versions of a handle, and then a step for each delta file that speaks of it. Files that don't speak of it leave no step, so that a split, a merge and clipping leave the trail as it is.
pub record Trail : Type 0 where
  pub stable : List Version
  pub steps : List Step

abbrev pub versions_on : ℤ → List Version → List Version
versions_on h versions = filter (λ (v : Version). int_eq v.handle h) versions

abbrev pub wrote_unless_empty : List Version → Option Step
wrote_unless_empty [] = None
wrote_unless_empty (v ∷ vs) = Some (Wrote (v ∷ vs))

abbrev pub step_on : ℤ → DeltaFile → Option Step
step_on h (Puts versions) = wrote_unless_empty (versions_on h versions)
step_on h (Clears range) = if holds range h then Some Cleared else None

abbrev pub steps_on : ℤ → List DeltaFile → List Step
steps_on h files = filter_map (step_on h) files

abbrev pub trail : ℤ → Segment → Trail
trail h s = record { stable = versions_on h s.stable; steps = steps_on h s.delta }

-- ---- present versions

-- a version at the timestamp takes the place of an older file's
abbrev pub after_version : ℕ → Option Version → Version → Option Version
after_version ts there v = if v.ts == ts then Some v else there

abbrev pub after_versions : ℕ → Option Version → List Version → Option Version
after_versions ts there versions = fold (after_version ts) there versions

abbrev pub after_step : ℕ → Option Version → Step → Option Version
after_step ts there Cleared = None
after_step ts there (Wrote versions) = after_versions ts there versions

abbrev pub after_steps : ℕ → Option Version → List Step → Option Version
after_steps ts there steps = fold (after_step ts) there steps

-- The versions of a handle that are present: those of the stable part, and then of the delta's files one by one. A file's version takes the place of an older file's at the same timestamp; a delete-range takes away what is below it.
abbrev pub present : Trail → Versions
present t ts = after_steps ts (after_versions ts None t.stable) t.steps

-- ---- which files write

-- whether a step writes a version at the timestamp, and whether one of several does
abbrev pub writes : ℕ → Step → Bool
writes ts Cleared = false
writes ts (Wrote versions) = list_any (λ (v : Version). v.ts == ts) versions

abbrev pub write : ℕ → List Step → Bool
write ts steps = list_any (writes ts) steps
