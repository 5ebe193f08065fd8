-- Layers in which tiny files took the place of others that show the same.
use Rattle.std.specs.Prelude.{◌≡◌, ℕ, ◌+◌, ℤ, ◌<◌, ◌≤◌, true, None, List, [], ◌∷◌, ◌++◌, length, take, drop, slice_range}
use Rattle.std.specs.List.{AllByRecursion, position_or_len}
use Rattle.column_block.specs.declared.cell.Version.{Version}
use Rattle.column_file.specs.declared.file.ColumnFile.{ColumnFile}
use Rattle.good_replica.specs.Changed.{view}
use Rattle.good_replica.specs.Trail.{steps_on, after_steps}
use Rattle.delta_layer.specs.Files.{files_of, is_mem, is_tiny}

-- one file in the place of the files from..to
abbrev pub replaced : ℕ → ℕ → ColumnFile → List ColumnFile → List ColumnFile
replaced from to one files = take from files ++ one ∷ drop to files

-- what files show of a handle at a timestamp, with nothing below them
abbrev pub ShowSame : List ColumnFile → List ColumnFile → Type 0
ShowSame some others = (h : ℤ) (ts : ℕ) → after_steps ts None (steps_on h (files_of some)) ≡ after_steps ts None (steps_on h (files_of others))

-- the place of the first block in memory
abbrev pub first_mem : List ColumnFile → ℕ
first_mem files = position_or_len is_mem files

-- The tiny file may take the place of the first n blocks in memory, among which there is no delete-range: it shows what they show.
pub record CanFlush (n : ℕ) (one : ColumnFile) (files : List ColumnFile) : Type 0 where
  pub some : 1 ≤ n
  pub within : first_mem files + n ≤ length files
  pub mems : AllByRecursion (λ (f : ColumnFile). is_mem f ≡ true) (slice_range files (first_mem files) (first_mem files + n))
  pub tiny : is_tiny one ≡ true
  pub same : ShowSame (one ∷ []) (slice_range files (first_mem files) (first_mem files + n))

abbrev pub flushed : ℕ → ColumnFile → List ColumnFile → List ColumnFile
flushed n one files = replaced (first_mem files) (first_mem files + n) one files

-- The tiny file may take the place of the tiny files from..to: it shows what they show.
pub record CanCompact (from to : ℕ) (one : ColumnFile) (files : List ColumnFile) : Type 0 where
  pub some : from < to
  pub within : to ≤ length files
  pub tinies : AllByRecursion (λ (f : ColumnFile). is_tiny f ≡ true) (slice_range files from to)
  pub tiny : is_tiny one ≡ true
  pub same : ShowSame (one ∷ []) (slice_range files from to)

abbrev pub compacted : ℕ → ℕ → ColumnFile → List ColumnFile → List ColumnFile
compacted from to one files = replaced from to one files

-- The second layer came from the first by one or more flushes and compactions.
pub data Repacked : List ColumnFile → List ColumnFile → Type 0 where
  Flushed : (files : List ColumnFile) (n : ℕ) (one : ColumnFile) → CanFlush n one files → Repacked files (flushed n one files)
  Compacted : (files : List ColumnFile) (from to : ℕ) (one : ColumnFile) → CanCompact from to one files → Repacked files (compacted from to one files)
  Then : (old middle new : List ColumnFile) → Repacked old middle → Repacked middle new → Repacked old new

-- Such layers have the same versions, above any stable part.
abbrev pub RepackedShowTheSame : Type 0
RepackedShowTheSame = (old new : List ColumnFile) → Repacked old new → (stable : List Version) (h : ℤ) (ts : ℕ) → view h stable (files_of new) ts ≡ view h stable (files_of old) ts
