-- The files of a delta: what they say, their order, and the index over them.
use Rattle.std.specs.Prelude.{◌≡◌, ℕ, Bool, true, false, List, [], map, fold}
use Rattle.std.specs.List.{AllByRecursion, AllPairs, enumerate_from}
use Rattle.column_block.specs.declared.cell.Version.{Version}
use Rattle.column_file.specs.declared.file.ColumnFile.{ColumnFile}
use Rattle.column_file.specs.declared.file.ColumnFile.TheVariants.{Mem, Tiny, DeleteRange}
use Rattle.delta_index.specs.Indexes.{Entry, extended, cleared}
use Rattle.good_replica.specs.Trail.{DeltaFile, Puts, Clears}

-- what a column file says
abbrev pub file_of : ColumnFile → DeltaFile
file_of (Mem block) = Puts block
file_of (Tiny file block) = Puts block
file_of (DeleteRange range) = Clears range

abbrev pub files_of : List ColumnFile → List DeltaFile
files_of files = map file_of files

abbrev pub is_mem : ColumnFile → Bool
is_mem (Mem block) = true
is_mem _ = false

abbrev pub is_tiny : ColumnFile → Bool
is_tiny (Tiny file block) = true
is_tiny _ = false

-- none is a block in memory
abbrev pub HasNoMem : List ColumnFile → Type 0
HasNoMem files = AllByRecursion (λ (f : ColumnFile). is_mem f ≡ false) files

-- No block in memory stands before a tiny file.
abbrev pub IsLayered : List ColumnFile → Type 0
IsLayered files = AllPairs (λ (f g : ColumnFile). is_mem f ≡ true → is_tiny g ≡ false) files

-- an index with one more file, of this number
abbrev pub indexed : ℕ → List Entry → ColumnFile → List Entry
indexed number index (Mem block) = extended index number block
indexed number index (Tiny file block) = extended index number block
indexed number index (DeleteRange range) = cleared index range

abbrev pub with_file : List Entry → ℕ × ColumnFile → List Entry
with_file index placed = indexed placed.0 index placed.1

-- The index over files, each numbered by its place.
abbrev pub index_of : List ColumnFile → List Entry
index_of files = fold with_file [] (enumerate_from 0 files)

-- each version that the file has is such
abbrev pub FileHas : (Version → Type 0) → DeltaFile → Type 0
FileHas P (Puts versions) = AllByRecursion P versions
FileHas P (Clears range) = Unit {0}

abbrev pub FilesHave : (Version → Type 0) → List DeltaFile → Type 0
FilesHave P files = AllByRecursion (FileHas P) files
