-- To be believed.
-- When slots are the segments of a state, with what the files that it names hold.
use Rattle.std.specs.Prelude.{◌≡◌, ℕ, List, [], length, map, Option, Some, None, Ok, is_some, false}
use Rattle.std.specs.List.{AllByRecursion}
use Rattle.flash_io.specs.Image.{Image}
use Rattle.flash_types.specs.declared.range.HandleRange.{HandleRange}
use Rattle.column_block.specs.Suiting.{Suits}
use Rattle.column_block.specs.declared.cell.Version.{Version}
use Rattle.column_block.specs.declared.column.Column.{Column}
use Rattle.column_file.specs.Tiny.{tiny_at}
use Rattle.column_file.specs.declared.file.ColumnFile.{ColumnFile}
use Rattle.column_file.specs.declared.file.ColumnFile.TheVariants.{Mem, Tiny, DeleteRange}
use Rattle.delta_layer.specs.Files.{FileHas, file_of, is_mem}
use Rattle.delta_layer.specs.Laws.{HasSchema}
use Rattle.manifest_form.specs.States.{segment_below}
use Rattle.manifest_form.specs.declared.state.StoredFile.{StoredFile}
use Rattle.manifest_form.specs.declared.state.StoredSegment.{StoredSegment}
use Rattle.stable_file.specs.Footer.{tail_at}
use Rattle.stable_file.specs.Opened.{grip_of, packs_of, schema_of}
use Rattle.stable_file.specs.declared.file.StableFile.{StableFile}
use Rattle.segment_list.specs.Order.{IsSlot, LiesIn}
use Rattle.segment_list.specs.Slots.{Slotted, kept}
use Rattle.replica_state.specs.Core.{IsNumbered, SlotSuits}
use Rattle.store_image.specs.Images.{HasFile}
use Rattle.segment_flush.specs.Names.{name_of, stored_of}

-- ---- as an image has it whose manifest stands in the file `own`

-- the bytes are a tiny file, of whose versions the block has those in the range
abbrev pub HasVersions : List Column → HandleRange → List Version → List ℕ → Type 0
HasVersions columns range block bytes = (versions : List Version) × (tiny_at columns bytes ≡ Ok versions) × (block ≡ kept range versions)

-- the file of a delta has what its tiny file holds
abbrev pub IsPartIn : ℕ → Image → List Column → HandleRange → ColumnFile → Type 0
IsPartIn own c columns range (Mem block) = ⊥
IsPartIn own c columns range (Tiny file block) = HasFile own c file (HasVersions columns range block)
IsPartIn own c columns range (DeleteRange cleared) = Unit {0}

module _ {G : Type 0} (bytes : G → List ℕ) where
  -- The grip of a stable part has the bytes, it was opened with these columns, and its packs are those that the footer tells.
  pub record IsHeld (columns : List Column) (part : StableFile G) (content : List ℕ) : Type 0 where
    pub grip : bytes (grip_of part) ≡ content
    pub schema : schema_of part ≡ columns
    pub footer : tail_at (length content) columns content ≡ Ok (packs_of part)

  abbrev pub IsStableIn : ℕ → Image → List Column → Option ℕ → Option (StableFile G) → Type 0
  IsStableIn own c columns None None = Unit {0}
  IsStableIn own c columns None (Some part) = ⊥
  IsStableIn own c columns (Some file) None = ⊥
  IsStableIn own c columns (Some file) (Some part) = HasFile own c file (IsHeld columns part)

  -- a slot has what its files hold, each of which is named
  pub record IsSlotIn (own : ℕ) (c : Image) (columns : List Column) (s : Slotted G) : Type 0 where
    pub all : s.named ≡ length s.files
    pub files : AllByRecursion (IsPartIn own c columns s.range) s.files
    pub stable : IsStableIn own c columns s.stable_number s.stable

-- ---- whatever was read

-- the tiny file of this number that the bytes are, with those of its versions that lie in the range
abbrev pub IsTinyOf : List Column → HandleRange → ℕ → List ℕ → ColumnFile → Type 0
IsTinyOf columns range file bytes f = (versions : List Version) × (tiny_at columns bytes ≡ Ok versions) × (f ≡ Tiny file (kept range versions))

-- the slot of a segment with these parts, all of whose files are named
abbrev pub slot_with : {G : Type 0} → StoredSegment → List ColumnFile → Option (StableFile G) → Slotted G
slot_with s files part = record { id = s.id; range = s.range; epoch = 0; files = files; stable = part; stable_number = s.stable; named = length files; tags = [] }

-- a file of a delta that is stored
pub record IsPart (columns : List Column) (range : HandleRange) (f : ColumnFile) : Type 0 where
  pub stored : is_mem f ≡ false
  pub lies : LiesIn range f
  pub suits : FileHas (Suits columns) (file_of f)

-- the files of a delta are those that are stored, one for one
pub record AreParts (columns : List Column) (range : HandleRange) (stored : List StoredFile) (files : List ColumnFile) : Type 0 where
  pub names : map name_of files ≡ map Some stored
  pub each : AllByRecursion (IsPart columns range) files

-- there is a stable part just where there is a file of it, and it was opened with these columns
pub record IsStablePart {G : Type 0} (columns : List Column) (file : Option ℕ) (part : Option (StableFile G)) : Type 0 where
  pub there : is_some part ≡ is_some file
  pub schema : HasSchema columns part

-- A slot that is in order, where nothing was applied since it was opened. It has a stable part just where there is a file of it.
pub record IsOpenedSlot {G : Type 0} (columns : List Column) (next : ℕ) (s : Slotted G) : Type 0 where
  pub order : IsSlot 0 0 s
  pub numbered : IsNumbered next s
  pub suit : SlotSuits columns s
  pub there : is_some s.stable ≡ is_some s.stable_number
