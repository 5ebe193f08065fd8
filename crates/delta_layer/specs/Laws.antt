-- What is written is read again, and suits the schema.
use Rattle.std.specs.Prelude.{◌≡◌, ℕ, ◌+◌, ◌<◌, ◌≤◌, ◌^◌, true, List, [], ◌∷◌, length, slice_range, Option, Some, None, Ok}
use Rattle.std.specs.List.{AllByRecursion, flat_map}
use Rattle.column_block.specs.declared.column.Column.{Column}
use Rattle.column_block.specs.declared.cell.Version.{Version}
use Rattle.column_block.specs.Order.{Rise}
use Rattle.column_block.specs.Suiting.{Suits}
use Rattle.column_file.specs.declared.file.ColumnFile.{ColumnFile}
use Rattle.column_file.specs.declared.file.ColumnFile.TheVariants.{Tiny}
use Rattle.flash_types.specs.declared.range.HandleRange.{HandleRange}
use Rattle.good_replica.specs.Trail.{DeltaFile}
use Rattle.stable_file.specs.declared.file.StableFile.{StableFile}
use Rattle.stable_file.specs.declared.pack.Pack.{Pack}
use Rattle.stable_file.specs.Footer.{tail_at}
use Rattle.stable_file.specs.Opened.{HasEnd, IsTailOf, grip_of, packs_of, schema_of}
use Rattle.delta_layer.specs.Files.{FilesHave, files_of, is_mem, is_tiny}
use Rattle.delta_layer.specs.Overlay.{block_in}
use Rattle.delta_layer.specs.Pieces.{IsStablePiece}
use Rattle.delta_layer.specs.Present.{ArePresent}
use Rattle.delta_layer.specs.Repacked.{CanCompact, CanFlush, first_mem}
use Rattle.delta_layer.specs.Stable.{packs_in, stable_in}
use Rattle.delta_layer.specs.declared.built.Piece.{Piece}
use Rattle.delta_layer.specs.declared.view.SegmentView.{SegmentView}

-- ---- what suits a schema

-- a stable part was opened with the schema
abbrev pub HasSchema : {G : Type 0} → List Column → Option (StableFile G) → Type 0
HasSchema columns None = Unit {0}
HasSchema columns (Some file) = schema_of file ≡ columns

-- a view's stable part was opened with the schema, and the versions of its files suit it
pub record ViewSuits {G : Type 0} (columns : List Column) (old : SegmentView G) : Type 0 where
  pub stable : HasSchema columns old.stable
  pub files : FilesHave (Suits columns) (files_of old.delta)

abbrev pub PiecesSuit : List Column → List Piece → Type 0
PiecesSuit columns pieces = AllByRecursion (λ (piece : Piece). AllByRecursion (Suits columns) piece.versions) pieces

-- What is read of a stable file suits the schema that it is read with.
abbrev pub StableFilesSuit : Type 0
StableFilesSuit = (columns : List Column) (bytes : List ℕ) (packs : List Pack) (versions : List Version) → packs_in columns bytes packs ≡ Ok versions → AllByRecursion (Suits columns) versions

-- Present versions are of the stable part or of a file: where these suit, they do.
abbrev pub PresentVersionsSuit : Type 0
PresentVersionsSuit = (columns : List Column) (range : HandleRange) (stable : List Version) (files : List DeltaFile) (versions : List Version) → ArePresent range stable files versions → AllByRecursion (Suits columns) stable → FilesHave (Suits columns) files → AllByRecursion (Suits columns) versions

-- ---- what was built

-- A piece's file is read as the piece's versions, where its packs are those that its last bytes tell.
abbrev pub PiecesAreReadAgain : Type 0
PiecesAreReadAgain = (columns : List Column) (rows : ℕ) (v : Version) (vs : List Version) (content tail : List ℕ) (len : ℕ) (packs : List Pack) → length columns < 2 ^ 16 → 0 < rows → rows < 2 ^ 32 → Rise (v ∷ vs) → AllByRecursion (Suits columns) (v ∷ vs) → IsStablePiece columns rows (v ∷ vs) content →
    IsTailOf len tail content → HasEnd len tail → tail_at len columns tail ≡ Ok packs → packs_in columns content packs ≡ Ok (v ∷ vs)

-- The piece's file, where its packs are those that its last bytes tell, reads as the piece's versions.
abbrev pub OpensAs : {G : Type 0} → (G → List ℕ) → List Column → Piece → Type 0
OpensAs {G} bytes columns piece = (file : StableFile G) (tail : List ℕ) (len : ℕ) → (piece.versions ≡ [] → ⊥) → bytes (grip_of file) ≡ piece.bytes → IsTailOf len tail piece.bytes → HasEnd len tail → schema_of file ≡ columns → tail_at len columns tail ≡ Ok (packs_of file) → stable_in bytes (Some file) ≡ Ok piece.versions

-- ---- blocks put together

-- The versions of blocks in memory, one behind the other, may take their place as a tiny file, whatever their number.
abbrev pub BlocksBecomeOne : Type 0
BlocksBecomeOne = (files : List ColumnFile) (n file : ℕ) → 1 ≤ n → first_mem files + n ≤ length files → AllByRecursion (λ (f : ColumnFile). is_mem f ≡ true) (slice_range files (first_mem files) (first_mem files + n)) →
    CanFlush n (Tiny file (flat_map block_in (slice_range files (first_mem files) (first_mem files + n)))) files

-- So may the versions of neighbouring tiny files.
abbrev pub TinyFilesBecomeOne : Type 0
TinyFilesBecomeOne = (files : List ColumnFile) (from to file : ℕ) → from < to → to ≤ length files → AllByRecursion (λ (f : ColumnFile). is_tiny f ≡ true) (slice_range files from to) →
    CanCompact from to (Tiny file (flat_map block_in (slice_range files from to))) files
