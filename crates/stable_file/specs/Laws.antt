-- What is written is read again.
use Rattle.std.specs.Prelude.{◌≡◌, ℕ, ◌+◌, ◌-◌, ◌<◌, ◌≤◌, ◌^◌, List, [], ◌∷◌, true, length, drop, Ok, Some, slice_get}
use Rattle.std.specs.List.{AllByRecursion, flat_map}
use Rattle.column_block.specs.declared.column.Column.{Column}
use Rattle.column_block.specs.declared.column.Kind.{Kind}
use Rattle.column_block.specs.declared.column.Kind.TheVariants as kind
use Rattle.column_block.specs.declared.column.MinMax.{MinMax}
use Rattle.column_block.specs.declared.column.MinMax.TheVariants.{Empty}
use Rattle.column_block.specs.declared.cell.Version.{Version}
use Rattle.pack_codec.specs.Spelling.{pack, PackFits}
use Rattle.column_block.specs.Suiting.{Suits}
use Rattle.stable_file.specs.declared.pack.Pack.{Pack}
use Rattle.stable_file.specs.Packs.{versions_in}
use Rattle.column_block.specs.Order.{rise}
use Rattle.stable_file.specs.Ranges.{range_with, handle_at, told_at, told_in}
use Rattle.stable_file.specs.Building.{cuts, file, FileFits}
use Rattle.column_codec.specs.Laws.{AreBytes}
use Rattle.stable_file.specs.Footer.{footer_at, tail_at}
use Rattle.stable_file.specs.Spelling.{footer_spelled}
use Rattle.stable_file.specs.Opened.{HasEnd, IsTailOf}
use Rattle.column_block.specs.Numbers.{is_within_range}

-- The pack of some versions is read as these versions, wherever it stands.
abbrev pub IsReadAgain : List Column → List Version → Type 0
IsReadAgain columns versions = (end at : ℕ) → versions_in end at columns (pack columns versions) ≡ Ok versions

-- ---- what the entry of a pack tells

-- the range of a column's numbers; a column of bytes has none in the footer
abbrev pub range_told : Kind → ℕ → List Version → MinMax
range_told kind.Bytes k versions = Empty
range_told _ k versions = range_with k Empty versions

-- the ranges of these columns, of which the first is column k
abbrev pub ranges_told : List Column → ℕ → List Version → List MinMax
ranges_told [] k versions = []
ranges_told (column ∷ columns) k versions = range_told column.kind k versions ∷ ranges_told columns (k + 1) versions

-- the pack of these versions at this place
abbrev pub told : List Column → ℕ → List Version → Pack
told columns place versions = record {
  place = place;
  len = length (pack columns versions);
  count = length versions;
  low = handle_at versions 0;
  high = handle_at versions (length versions - 1);
  ranges = ranges_told columns 0 versions;
}

-- the packs of these versions, one behind the other from this place on
abbrev pub packs_told : List Column → ℕ → List (List Version) → List Pack
packs_told columns place [] = []
packs_told columns place (cut ∷ others) = told columns place cut ∷ packs_told columns (place + length (pack columns cut)) others

-- The pack of some versions has what its entry tells, wherever it stands.
abbrev pub IsAsTold : List Column → List Version → Type 0
IsAsTold columns versions = (end at : ℕ) → told_at (told columns at versions) end columns (pack columns versions) ≡ Ok versions

-- ---- the packs of a file

-- Each has so many versions, and the last has at least one, and not more.
abbrev pub AreFull : ℕ → List (List Version) → Type 0
AreFull rows [] = ⊥
AreFull rows (cut ∷ []) = (0 < length cut) × (length cut ≤ rows)
AreFull rows (cut ∷ next ∷ others) = (length cut ≡ rows) × AreFull rows (next ∷ others)

-- The packs stand in a file's content one behind the other from this place on, and each is read there as the versions that it has.
abbrev pub AllStand : List Column → List ℕ → ℕ → List (List Version) → Type 0
AllStand columns content place [] = Unit {0}
AllStand columns content place (cut ∷ others) = (told_in (told columns place cut) columns content ≡ Ok cut) × AllStand columns content (place + length (pack columns cut)) others

-- The packs of a file together have its versions, and each of them is read as the versions that it has, which its entry tells.
pub record PacksHave (columns : List Column) (rows : ℕ) (versions : List Version) : Type 0 where
  pub together : flat_map (λ cut. cut) (cuts rows versions) ≡ versions
  pub sizes : AreFull rows (cuts rows versions)
  pub each : AllByRecursion (IsReadAgain columns) (cuts rows versions)
  pub entries : AllByRecursion (IsAsTold columns) (cuts rows versions)
  pub stand : AllStand columns (file columns rows versions) 4 (cuts rows versions)

-- So it is with versions that rise and suit the schema.
abbrev pub BuiltPacksAreReadAgain : Type 0
BuiltPacksAreReadAgain = (columns : List Column) (rows : ℕ) (versions : List Version) → length columns < 2 ^ 16 → 0 < rows → rise versions ≡ true → AllByRecursion (Suits columns) versions → AllByRecursion (PackFits columns) (cuts rows versions)
    → PacksHave columns rows versions

-- The file's footer is read as the packs that it has: from the whole file, and from its last bytes where they begin nowhere behind the packs.
pub record FooterTells (columns : List Column) (rows : ℕ) (versions : List Version) : Type 0 where
  pub whole : tail_at (length (file columns rows versions)) columns (file columns rows versions) ≡ Ok (packs_told columns 4 (cuts rows versions))
  pub tail : (from : ℕ) → from ≤ 4 + length (flat_map (pack columns) (cuts rows versions)) → tail_at (length (file columns rows versions)) columns (drop from (file columns rows versions)) ≡ Ok (packs_told columns 4 (cuts rows versions))

-- So it is where these versions and the file have no numbers that don't fit.
abbrev pub BuiltFootersAreReadAgain : Type 0
BuiltFootersAreReadAgain = (columns : List Column) (rows : ℕ) (versions : List Version) → 0 < rows → rows < 2 ^ 32 → rise versions ≡ true → AllByRecursion (Suits columns) versions → FileFits columns rows versions → FooterTells columns rows versions

-- ---- any file

-- The last bytes of a file tell the packs that the whole file tells, whatever the bytes are.
abbrev pub TailsTellTheWhole : Type 0
TailsTellTheWhole = (len : ℕ) (columns : List Column) (tail bytes : List ℕ) → IsTailOf len tail bytes → HasEnd len tail → tail_at len columns tail ≡ tail_at len columns bytes

-- Of a pack that is as its footer tells, each version has in a column of numbers none, or one of the range that the footer tells.
abbrev pub RangesTellOfRows : Type 0
RangesTellOfRows = (columns : List Column) (pack : Pack) (end column : ℕ) (bytes : List ℕ) (range : MinMax) (versions : List Version) → told_at pack end columns bytes ≡ Ok versions → slice_get pack.ranges column ≡ Some range →
    AllByRecursion (λ (v : Version). is_within_range column range v.cells ≡ true) versions

-- Bytes that are read as a footer are the one spelling of the packs that it tells, so no other bytes are read as these packs.
abbrev pub FootersHaveOneSpelling : Type 0
FootersHaveOneSpelling = (columns : List Column) (end : ℕ) (footer : List ℕ) (packs : List Pack) → AreBytes footer → footer_at end columns footer ≡ Ok packs → footer ≡ footer_spelled columns packs
