-- What is told of a segment.
use Rattle.std.specs.Prelude.{◌≡◌, ℕ, ◌+◌, ◌-◌, ◌^◌, ◌≤◌, min, max, true, List, [], ◌∷◌, length, take, drop}
use Rattle.std.specs.List.{AllByRecursion, prefix_len, sum_by}
use Rattle.column_file.specs.declared.file.ColumnFile.{ColumnFile}
use Rattle.delta_layer.specs.Files.{is_tiny}
use Rattle.segment_due.specs.declared.info.SegInfo.{SegInfo}
use Rattle.segment_list.specs.Slots.{Slotted, file_rows, mem_rows, rows_below}

-- The length of the longest run of tiny files that stand side by side. At each place it begins a run of those from there on.
abbrev pub longest_run : List ColumnFile → ℕ
longest_run [] = 0
longest_run (f ∷ fs) = max (prefix_len is_tiny (f ∷ fs)) (longest_run fs)

-- the versions of its stable part in packs that meet its range, and those of its delta, as far as 64 bits go
abbrev pub total_of : {G : Type 0} → Slotted G → ℕ
total_of s = min (rows_below s.range s.stable + sum_by file_rows s.files) (2 ^ 64 - 1)

-- Versions count as often as they stand in the files, also where a later file replaces or clears them.
abbrev pub info_of : {G : Type 0} → Slotted G → SegInfo
info_of s = record { id = s.id; range = s.range; epoch = s.epoch; mem = sum_by mem_rows s.files; tiny_run = longest_run s.files; delta = sum_by file_rows s.files; total = total_of s }

-- ---- what the longest run is

-- from the place on stand so many files, and all of them are tiny
pub record AreTinies (files : List ColumnFile) (place n : ℕ) : Type 0 where
  pub within : place + n ≤ length files
  pub tinies : AllByRecursion (λ (f : ColumnFile). is_tiny f ≡ true) (take n (drop place files))

-- So many tiny files stand side by side somewhere, and nowhere more.
pub record IsLongestRun (files : List ColumnFile) (n : ℕ) : Type 0 where
  pub place : ℕ
  pub are : AreTinies files place n
  pub most : (other m : ℕ) → AreTinies files other m → m ≤ n
