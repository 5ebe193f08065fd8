-- Which files of a disk a store names.
use Rattle.std.specs.Prelude.{ℕ, Bool, false, not, ◌||◌, ◌==◌, Option, Some, None, List}
use Rattle.std.specs.List.{list_any}
use Rattle.manifest_form.specs.declared.state.State.{State}
use Rattle.manifest_form.specs.declared.state.StoredFile.{StoredFile}
use Rattle.manifest_form.specs.declared.state.StoredFile.TheVariants.{Tiny, DeleteRange}
use Rattle.manifest_form.specs.declared.state.StoredSegment.{StoredSegment}

abbrev pub is_number : ℕ → Option ℕ → Bool
is_number file None = false
is_number file (Some other) = other == file

abbrev pub is_tiny_file : ℕ → StoredFile → Bool
is_tiny_file file (Tiny other) = other == file
is_tiny_file file (DeleteRange range) = false

-- the file of the segment's stable part, or a tiny file of its delta
abbrev pub is_file_of : ℕ → StoredSegment → Bool
is_file_of file segment = is_number file segment.stable || list_any (is_tiny_file file) segment.delta

-- the region file, or a file of a segment
abbrev pub is_file_in : ℕ → State → Bool
is_file_in file s = is_number file s.regions || list_any (is_file_of file) s.segments

-- the root, the manifest's file, or one that the state names
abbrev pub is_named : ℕ → State → ℕ → Bool
is_named own s file = file == 0 || (file == own || is_file_in file s)

-- one of these
abbrev pub is_among : List ℕ → ℕ → Bool
is_among files file = list_any (λ other. other == file) files

-- named, or one of the retired
abbrev pub is_known : ℕ → State → List ℕ → ℕ → Bool
is_known own s retired file = is_named own s file || is_among retired file

-- a file that nothing needs
abbrev pub is_stray : ℕ → State → List ℕ → ℕ → Bool
is_stray own s retired file = not (is_known own s retired file)
