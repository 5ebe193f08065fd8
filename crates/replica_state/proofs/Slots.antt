-- Slots stay in order where an entry's files come.
use Rattle.std.proofs.Common.{ℕ, Bool, true, false, cond, List, [], ◌∷◌, ◌++◌, Option, Some, None, map, filter}
use Rattle.std.specs.List.{AllByRecursion}
use Rattle.column_block.specs.Suiting.{Suits}
use Rattle.column_block.specs.declared.cell.Version.{Version}
use Rattle.column_block.specs.declared.column.Column.{Column}
use Rattle.column_file.specs.declared.file.ColumnFile.{ColumnFile}
use Rattle.column_file.specs.declared.file.ColumnFile.TheVariants.{DeleteRange}
use Rattle.delta_layer.specs.Files.{FileHas, FilesHave, file_of, files_of}
use Rattle.flash_types.specs.Ranges.{common, has_any}
use Rattle.flash_types.specs.declared.range.HandleRange.{HandleRange}
use Rattle.segment_list.specs.Slots.{Slotted, is_in, kept, pushed_some, absorbed, cleared_file, added_file, block_file}
use Rattle.replica_state.specs.Core.{IsFileBelow, IsNumbered, SlotSuits}
use Rattle.replica_state.proofs.Sets.{all_one_more}

-- what holds of each then holds of what each becomes
pub all_map : {X Y : Type 0} (P : X → Type 0) (Q : Y → Type 0) (f : X → Y) → ((x : X) → P x → Q (f x)) → (xs : List X) → AllByRecursion P xs → AllByRecursion Q (map f xs)
all_map P Q f step [] all = tt
all_map P Q f step (x ∷ xs) all = (step x all.0, all_map P Q f step xs all.1)

all_kept : {X : Type 0} (P : X → Type 0) (p : X → Bool) (xs : List X) → AllByRecursion P xs → AllByRecursion P (filter p xs)
all_kept P p [] all = tt
all_kept P p (x ∷ xs) all = elim (p x) as (λ b. AllByRecursion P (cond b (x ∷ filter p xs) (filter p xs))) [ true ↦ (all.0, all_kept P p xs all.1) | false ↦ all_kept P p xs all.1 ]

-- a file that comes last
IsFit : ℕ → List Column → Option ColumnFile → Type 0
IsFit next columns None = Unit {0}
IsFit next columns (Some f) = IsFileBelow next f × FileHas (Suits columns) (file_of f)

files_one_more : (P : Version → Type 0) (files : List ColumnFile) (f : ColumnFile) → FilesHave P (files_of files) → FileHas P (file_of f) → FilesHave P (files_of (files ++ f ∷ []))
files_one_more P [] f all last = (last, tt)
files_one_more P (g ∷ files) f all last = (all.0, files_one_more P files f all.1 last)

cleared_fits : (next : ℕ) (columns : List Column) (range : HandleRange) (clears : Option HandleRange) → IsFit next columns (cleared_file range clears)
unfolding IsFit
cleared_fits next columns range None = tt
cleared_fits next columns range (Some other) = elim (has_any (common range other)) as (λ v. IsFit next columns (cond v (Some (DeleteRange (common range other))) None)) [ true ↦ (tt, tt) | false ↦ tt ]

block_fits : (next : ℕ) (columns : List Column) (vs : List Version) → AllByRecursion (Suits columns) vs → IsFit next columns (block_file vs)
unfolding IsFit
block_fits next columns [] all = tt
block_fits next columns (v ∷ vs) all = (tt, all)

module _ {G : Type 0} (tag : ℕ) where
  numbered_pushed : (next : ℕ) (columns : List Column) (o : Option ColumnFile) (s : Slotted G) → IsFit next columns o → IsNumbered next s → IsNumbered next (pushed_some tag o s)
  unfolding IsFit
  numbered_pushed next columns None s fit is = is
  numbered_pushed next columns (Some f) s fit is = record { id = is.id; epoch = is.epoch; files = all_one_more (IsFileBelow next) s.files f is.files fit.0; stable = is.stable }

  suits_pushed : (next : ℕ) (columns : List Column) (o : Option ColumnFile) (s : Slotted G) → IsFit next columns o → SlotSuits columns s → SlotSuits columns (pushed_some tag o s)
  unfolding IsFit
  suits_pushed next columns None s fit is = is
  suits_pushed next columns (Some f) s fit is = record { stable = is.stable; files = files_one_more (Suits columns) s.files f is.files fit.1 }

  pub numbered_absorbed : (next : ℕ) (columns : List Column) (clears : Option HandleRange) (adds : List Version) → AllByRecursion (Suits columns) adds → (s : Slotted G) → IsNumbered next s → IsNumbered next (absorbed tag clears adds s)
  numbered_absorbed next columns clears adds suit s is =
      numbered_pushed next columns (added_file s.range adds) (pushed_some tag (cleared_file s.range clears) s) (block_fits next columns (kept s.range adds) (all_kept (Suits columns) (is_in s.range) adds suit))
      (numbered_pushed next columns (cleared_file s.range clears) s (cleared_fits next columns s.range clears) is)

  pub suits_absorbed : (columns : List Column) (clears : Option HandleRange) (adds : List Version) → AllByRecursion (Suits columns) adds → (s : Slotted G) → SlotSuits columns s → SlotSuits columns (absorbed tag clears adds s)
  suits_absorbed columns clears adds suit s is =
      suits_pushed 0 columns (added_file s.range adds) (pushed_some tag (cleared_file s.range clears) s) (block_fits 0 columns (kept s.range adds) (all_kept (Suits columns) (is_in s.range) adds suit))
      (suits_pushed 0 columns (cleared_file s.range clears) s (cleared_fits 0 columns s.range clears) is)
