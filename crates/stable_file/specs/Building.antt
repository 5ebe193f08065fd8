-- How a stable file is written.
use Rattle.std.specs.Prelude.{ℕ, zero, suc, ◌+◌, ◌-◌, ◌/◌, ◌%◌, ◌<◌, ◌^◌, ℤ, List, [], ◌∷◌, ◌++◌, length, take, drop}
use Rattle.std.specs.Int.{w32, w64, w128, to_be_bytes, cast_unsigned}
use Rattle.std.specs.List.{AllByRecursion, flat_map}
use Rattle.column_block.specs.declared.column.Column.{Column}
use Rattle.column_block.specs.declared.column.Kind.{Kind}
use Rattle.column_block.specs.declared.column.Kind.TheVariants as kind
use Rattle.column_block.specs.declared.column.MinMax.{MinMax}
use Rattle.column_block.specs.declared.column.MinMax.TheVariants.{Empty, Of}
use Rattle.column_block.specs.declared.cell.Version.{Version}
use Rattle.pack_codec.specs.Spelling.{pack, PackFits}
use Rattle.stable_file.specs.Footer.{end_magic}
use Rattle.stable_file.specs.Ranges.{range_with, handle_at}

-- ---- the versions of each pack

-- the first so many packs of so many rows, and fewer where the versions end
abbrev pub first_cuts : ℕ → ℕ → List Version → List (List Version)
first_cuts zero rows versions = []
first_cuts (suc packs) rows versions = take rows versions ∷ first_cuts packs rows (drop rows versions)

-- how many packs of so many rows some versions need, of which there is one at least
abbrev pub packs_for : ℕ → ℕ → ℕ
packs_for rows versions = (versions - 1) / rows + 1

-- The versions of each pack: so many rows, and the last one has the rest.
abbrev pub cuts : ℕ → List Version → List (List Version)
cuts rows versions = first_cuts (packs_for rows (length versions)) rows versions

-- ---- the entry of a pack

-- the last 64 bits of a number in two's complement
unfoldable pub bits : ℤ → ℕ
bits n = cast_unsigned w128 n % 2 ^ 64

unfoldable pub number : ℤ → List ℕ
number n = to_be_bytes w64 (bits n)

-- 0 where there is no number; else 1, the least and the greatest
unfoldable pub numbers : MinMax → List ℕ
numbers Empty = 0 ∷ []
numbers (Of least greatest) = (1 ∷ []) ++ (number least ++ number greatest)

-- a column of bytes has no range in the footer
abbrev pub range : Kind → ℕ → List Version → List ℕ
range kind.Bytes k versions = []
range _ k versions = numbers (range_with k Empty versions)

-- the ranges of these columns, of which the first is column k
abbrev pub ranges : List Column → ℕ → List Version → List ℕ
ranges [] k versions = []
ranges (column ∷ columns) k versions = range column.kind k versions ++ ranges columns (k + 1) versions

-- place, length and number of versions
unfoldable pub sizes : ℕ → ℕ → ℕ → List ℕ
sizes place len count = to_be_bytes w64 place ++ (to_be_bytes w64 len ++ to_be_bytes w32 count)

-- the least and the greatest handle
abbrev pub handle : ℤ → List ℕ
handle n = to_be_bytes w64 (cast_unsigned w64 n)

unfoldable pub handles : List Version → List ℕ
handles versions = handle (handle_at versions 0) ++ handle (handle_at versions (length versions - 1))

-- the entry of the pack of these versions that stands at this place, and has so many bytes
unfoldable pub entry_of : List Column → ℕ → ℕ → List Version → List ℕ
entry_of columns place len versions = sizes place len (length versions) ++ (handles versions ++ ranges columns 0 versions)

abbrev pub entry : List Column → ℕ → List Version → List ℕ
entry columns place versions = entry_of columns place (length (pack columns versions)) versions

-- ---- the file

-- the entries of packs that lie one behind the other from this place on
abbrev pub entries : List Column → ℕ → List (List Version) → List ℕ
entries columns place [] = []
entries columns place (cut ∷ others) = entry columns place cut ++ entries columns (place + length (pack columns cut)) others

-- the entries, and the number of packs
unfoldable pub footer : List Column → List (List Version) → List ℕ
footer columns parts = entries columns 4 parts ++ to_be_bytes w64 (length parts)

-- a footer, its length and `FLSE`
unfoldable pub ending : List ℕ → List ℕ
ending bytes = bytes ++ (to_be_bytes w64 (length bytes) ++ to_be_bytes w32 end_magic)

-- `FLST` as a number
abbrev pub magic : ℕ
magic = 0x464C5354

-- the file with these packs
unfoldable pub file_of : List Column → List (List Version) → List ℕ
file_of columns parts = to_be_bytes w32 magic ++ (flat_map (pack columns) parts ++ ending (footer columns parts))

-- The stable file of some versions, in packs of so many rows.
abbrev pub file : List Column → ℕ → List Version → List ℕ
file columns rows versions = file_of columns (cuts rows versions)

-- The numbers and lengths in the file have 64 bits, as those of a program's versions have.
pub record FileFits (columns : List Column) (rows : ℕ) (versions : List Version) : Type 0 where
  pub packs : AllByRecursion (PackFits columns) (cuts rows versions)
  pub bytes : length (file columns rows versions) < 2 ^ 64
