-- Which jobs can be begun on segments, and on which of them.
use Rattle.std.specs.Prelude.{◌==◌, ℕ, Bool, true, false, ◌&&◌, ◌||◌, Option, List, [], ◌∷◌, drop, option_map, position, unwrap_or}
use Rattle.column_file.specs.declared.file.ColumnFile.{ColumnFile}
use Rattle.delta_layer.specs.Files.{is_tiny}
use Rattle.delta_layer.specs.declared.built.Job.{Job}
use Rattle.delta_layer.specs.declared.built.Job.TheVariants.{Compact, MergeDelta, Split, Merge}
use Rattle.segment_laws.specs.Runs.{tiny_at_place}
use Rattle.segment_list.specs.Slots.{Slotted}

-- the number of the segment that a job names
abbrev pub segment_of : Job → ℕ
segment_of (Compact seg) = seg
segment_of (MergeDelta seg) = seg
segment_of (Split seg) = seg
segment_of (Merge seg) = seg

abbrev pub is_merge : Job → Bool
is_merge (Merge seg) = true
is_merge _ = false

abbrev pub is_split : Job → Bool
is_split (Split seg) = true
is_split _ = false

-- whether two tiny files stand side by side
abbrev pub has_run : List ColumnFile → Bool
has_run [] = false
has_run (f ∷ fs) = (is_tiny f && tiny_at_place fs 0) || has_run fs

abbrev pub has_any : {X : Type 0} → List X → Bool
has_any [] = false
has_any (x ∷ xs) = true

module _ {G : Type 0} where
  -- the slot of this number and those above it; none where there is no such slot
  abbrev pub slots_from : ℕ → List (Slotted G) → List (Slotted G)
  slots_from seg slots = unwrap_or (option_map (λ (place : ℕ). drop place slots) (position (λ (s : Slotted G). s.id == seg) slots)) []

  -- Whether a job can be begun on the first of these slots: a compaction needs two tiny files side by side, a delta merge a file, and a merge a slot above.
  abbrev pub can_begin_on : Job → List (Slotted G) → Bool
  can_begin_on job [] = false
  can_begin_on (Compact seg) (s ∷ above) = has_run s.files
  can_begin_on (MergeDelta seg) (s ∷ above) = has_any s.files
  can_begin_on (Split seg) (s ∷ above) = true
  can_begin_on (Merge seg) (s ∷ above) = has_any above

  -- whether it can be begun: there is a slot of its number, and that one has what the job needs
  abbrev pub can_begin : Job → List (Slotted G) → Bool
  can_begin job slots = can_begin_on job (slots_from (segment_of job) slots)
