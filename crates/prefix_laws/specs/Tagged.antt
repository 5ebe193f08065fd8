-- Segments whose files carry a count: how many entries had been applied when the file came. What is there at a count are the files up to it.
use Rattle.std.specs.Prelude.{ℕ, Bool, List, map, filter, nat_le}
use Rattle.column_block.specs.declared.cell.Version.{Version}
use Rattle.flash_types.specs.declared.range.HandleRange.{HandleRange}
use Rattle.good_replica.specs.Changed.{of_parts}
use Rattle.good_replica.specs.Trail.{Segment, DeltaFile}

-- A file of a delta, and its count. A file that a manifest names has a count not above the committed one, as 0.
pub record Tagged : Type 0 where
  pub tag : ℕ
  pub file : DeltaFile

-- the handles of a segment, its stable versions, and the files of its delta with their counts, the oldest first
pub record TaggedSegment : Type 0 where
  pub range : HandleRange
  pub stable : List Version
  pub files : List Tagged

abbrev pub tagged_of : HandleRange → List Version → List Tagged → TaggedSegment
tagged_of range stable files = record { range = range; stable = stable; files = files }

abbrev pub with_tag : ℕ → DeltaFile → Tagged
with_tag tag file = record { tag = tag; file = file }

-- ---- what is there at a count

-- whether the file had come by then
abbrev pub is_by : ℕ → Tagged → Bool
is_by k f = nat_le f.tag k

abbrev pub file_in : Tagged → DeltaFile
file_in f = f.file

-- the files that had come by then
abbrev pub files_at : ℕ → List Tagged → List DeltaFile
files_at k files = map file_in (filter (is_by k) files)

-- the segment as it is at a count
abbrev pub content : ℕ → TaggedSegment → Segment
content k s = of_parts s.range s.stable (files_at k s.files)
