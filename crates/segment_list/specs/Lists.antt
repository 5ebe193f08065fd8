-- Slots that stand side by side.
use Rattle.std.specs.Prelude.{◌≡◌, ◌≢◌, ◌==◌, ◌+◌, ℕ, ℤ, true, false, Bool, ◌||◌, Option, Some, None, List, [], ◌∷◌, ◌++◌, IsTrue, drop, is_some, map, take}
use Rattle.std.specs.List.{All, AllPairs, list_any}
use Rattle.column_block.specs.declared.cell.Version.{Version}
use Rattle.column_file.specs.declared.file.ColumnFile.{ColumnFile}
use Rattle.column_file.specs.declared.file.ColumnFile.TheVariants.{Tiny}
use Rattle.flash_types.specs.Ranges.{has_any, least_handle}
use Rattle.flash_types.specs.declared.range.HandleRange.{HandleRange}
use Rattle.good_replica.specs.Changed.{of_parts}
use Rattle.good_replica.specs.Good.{CoversFrom}
use Rattle.good_replica.specs.Trail.{Segment}
use Rattle.segment_list.specs.Slots.{Slotted, cleared_file, added_file}

-- The first begins at `low`, each of the others where the one before it ends, none is empty, and the last ends at the high end, or has no end where there is none.
abbrev pub CoverTo : {G : Type 0} → Option ℤ → ℤ → List (Slotted G) → Type 0
CoverTo high low [] = IsTrue false
CoverTo high low (s ∷ []) = (s.range.low ≡ low) × (s.range.high ≡ high) × (has_any s.range ≡ true)
CoverTo high low (s ∷ t ∷ more) = (s.range.low ≡ low) × (s.range.high ≡ Some t.range.low) × (has_any s.range ≡ true) × CoverTo high t.range.low (t ∷ more)

-- they have the handles of the range, and no others
abbrev pub Cover : {G : Type 0} → HandleRange → List (Slotted G) → Type 0
Cover range slots = CoverTo range.high range.low slots

-- whether an entry, its delete-range or its versions, says anything of a range
abbrev pub says_of : HandleRange → Option HandleRange → List Version → Bool
says_of range clears adds = is_some (cleared_file range clears) || is_some (added_file range adds)

-- a slot's range, as a segment has it
abbrev pub range_alone : {G : Type 0} → Slotted G → Segment
range_alone s = of_parts s.range [] []

-- no two of the slots have the same number
abbrev pub NumbersDiffer : {G : Type 0} → List (Slotted G) → Type 0
NumbersDiffer {G} slots = AllPairs (λ (s t : Slotted G). s.id ≢ t.id) slots

-- for the number of each slot it is known where the slot begins
abbrev pub AreNoted : {G : Type 0} → (ℕ → Option ℤ) → List (Slotted G) → Type 0
AreNoted {G} low_of slots = All (λ (s : Slotted G). low_of s.id ≡ Some s.range.low) slots

-- It is known of these slots now, and of other numbers what was known before.
pub record HaveNoted {G : Type 0} (old new : ℕ → Option ℤ) (slots : List (Slotted G)) : Type 0 where
  pub noted : AreNoted new slots
  pub others : (q : ℕ) → All (λ (s : Slotted G). s.id ≢ q) slots → new q ≡ old q

-- The slots cover all handles, their numbers differ, and where all of them are noted it is known for the number of each where the slot begins.
pub record AreSegments {G : Type 0} (low_of : ℕ → Option ℤ) (all_noted : Bool) (slots : List (Slotted G)) : Type 0 where
  pub cover : CoversFrom least_handle (map range_alone slots)
  pub numbers : NumbersDiffer slots
  pub found : all_noted ≡ true → AreNoted low_of slots

-- ---- slots that take the place of others

-- `count` slots from a place on give way to others
abbrev pub with_slots : {G : Type 0} → (place count : ℕ) → List (Slotted G) → List (Slotted G) → List (Slotted G)
with_slots place count news slots = take place slots ++ (news ++ drop (place + count) slots)

-- the second slots have the handles of the first, whichever these are, and no others
abbrev pub CoverAlike : {G : Type 0} → List (Slotted G) → List (Slotted G) → Type 0
CoverAlike olds news = (range : HandleRange) → Cover range olds → Cover range news

-- ---- files that are named

abbrev pub is_number : ℕ → Option ℕ → Bool
is_number file None = false
is_number file (Some other) = other == file

abbrev pub is_tiny_file : ℕ → ColumnFile → Bool
is_tiny_file file (Tiny other block) = other == file
is_tiny_file file _ = false

-- the file of the slot's stable part, or a tiny file among those of its delta that are named
abbrev pub is_file_of : {G : Type 0} → ℕ → Slotted G → Bool
is_file_of file s = is_number file s.stable_number || list_any (is_tiny_file file) (take s.named s.files)

-- a file of some slot
abbrev pub is_file_in : {G : Type 0} → ℕ → List (Slotted G) → Bool
is_file_in file slots = list_any (is_file_of file) slots
