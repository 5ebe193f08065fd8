-- Files are staged one after the other.
use Rattle.std.proofs.Common.{◌≡◌, ◌∙◌, inl, inr, ℕ, zero, suc, ◌+◌, ◌<◌, ◌≤◌, Bool, true, List, [], ◌∷◌, take, Some, refl, sym, ap, subst, arith}
use Rattle.std.specs.Prelude.{slice_get}
use Rattle.std.specs.List.{AllByRecursion}
use Rattle.column_block.specs.declared.cell.Version.{Version}
use Rattle.column_block.specs.declared.column.Column.{Column}
use Rattle.column_block.specs.Schemas.{IsSchema}
use Rattle.column_block.specs.Suiting.{Suits}
use Rattle.column_file.specs.Laws.{TinyFilesAreReadAgain}
use Rattle.column_file.specs.Tiny.{tiny}
use Rattle.column_file.specs.declared.file.ColumnFile.{ColumnFile}
use Rattle.column_file.specs.declared.file.ColumnFile.TheVariants.{Mem, Tiny, DeleteRange}
use Rattle.delta_layer.specs.Files.{FileHas, FilesHave, file_of, files_of}
use Rattle.flash_io.specs.Crash.{Elsewhere}
use Rattle.flash_io.specs.Image.{Image}
use Rattle.flash_io.specs.declared.disk.Disk.{Ghosts}
use Rattle.flash_io.proofs.Moments.{started, then, weaken}
use Rattle.flash_io.proofs.Runs.{counted_then}
use Rattle.manifest.specs.Stores.{Beneath}
use Rattle.manifest.specs.declared.store.Manifest.{Manifest}
use Rattle.manifest_form.specs.States.{is_formed}
use Rattle.pack_codec.specs.Spelling.{PackFits}
use Rattle.replica_store.specs.Store.{Counted, IsStaged, LeavesAlways, NamesNothing, Stored}
use Rattle.segment_list.specs.Flushes.{after_files, flushed_file, flushed_files}
use Rattle.segment_list.specs.Slots.{Slotted}
use Rattle.segment_list.proofs.Flushing.{flushed_more}
use Rattle.segment_flush.specs.Flushing.{after_slots, flushed_slots, one_flushed}
use Rattle.store_image.proofs.Frames.{beneath_next}
use Rattle.segment_staging.specs.Staging.{AreBelow, AreWritten, IsFileBelow, IsNamedIn, IsWritten}
use Rattle.segment_staging.proofs.Numbered.{all_both, all_front, front_below, next_flushed, slots_below}

-- ---- one file

pub files_at : (P : Version → Type 0) (files : List ColumnFile) (i : ℕ) (f : ColumnFile) → slice_get files i ≡ Some f → FilesHave P (files_of files) → FileHas P (file_of f)
files_at P [] i f h all = absurd (cc h)
files_at P (g ∷ gs) zero f h all = let same : g ≡ f = cc h in subst (λ (z : ColumnFile). FileHas P (file_of z)) same all.0
files_at P (g ∷ gs) (suc i) f h all = files_at P gs i f h all.1

-- a block that was staged is read again
pub block_written : {D R G : Type 0} (d : Ghosts D R G) (s : Stored D) (columns : List Column) (next number : ℕ) (block : List Version) (bytes : List ℕ) → TinyFilesAreReadAgain → IsSchema columns → AllByRecursion (Suits columns) block → PackFits columns block
    → bytes ≡ tiny columns block → IsStaged d number bytes s → (c : Image) → d.may_leave s.disk c → IsWritten columns next c (Tiny number block)
block_written d s columns next number block bytes again lawful suits fits are staged c left =
    inr (tiny columns block, staged.durable c left ∙ ap (λ (b : List ℕ). Some b) are, again columns block (let few = lawful.few in omega (arith, few)) suits fits)

-- what is below the first new number needs no writing
file_written : (columns : List Column) (first : ℕ) (c : Image) (f : ColumnFile) → IsFileBelow first f → IsWritten columns first c f
file_written columns first c (Mem block) below = tt
file_written columns first c (Tiny file block) below = inl below
file_written columns first c (DeleteRange range) below = tt

pub below_written : (columns : List Column) (first : ℕ) (c : Image) (files : List ColumnFile) → AreBelow first files → AreWritten columns first c files
below_written columns first c [] all = tt
below_written columns first c (f ∷ fs) all = (file_written columns first c f all.0, below_written columns first c fs all.1)

-- ---- no file

module _ {D R G : Type 0} (d : Ghosts D R G) where
  pub nothing_named : (s : Stored D) → NamesNothing d s s
  nothing_named s = record { manifest = refl; opened_faults = refl; kept = λ kept. kept }

  pub named_on : (a b c : Stored D) → NamesNothing d a b → NamesNothing d b c → NamesNothing d a c
  named_on a b c first second = record { manifest = second.manifest ∙ first.manifest; opened_faults = second.opened_faults ∙ first.opened_faults; kept = λ kept. second.kept (first.kept kept) }

  pub nothing_counted : (s : Stored D) → Counted d s s
  nothing_counted s = record { later = omega arith; readers = refl; spared = λ never. (never, refl) }

  pub counted_on : (a b c : Stored D) → Counted d a b → Counted d b c → Counted d a c
  counted_on a b c first second = counted_then d.fault_count d.reader_fault_count d.never_fails a.disk b.disk c.disk first second

  module _ (only_now : (disk : D) (c : Image) → d.left_since disk (d.moment disk) c → d.may_leave disk c) where
    pub elsewhere_now : (s : Stored D) (file : ℕ) → LeavesAlways d s s (Elsewhere file (d.may_leave s.disk))
    elsewhere_now s file = started d.moment d.left_since s.disk _ (λ c left. (c, only_now s.disk c left, (λ other apart. refl)))

    pub beneath_now : (s : Stored D) (first : ℕ) → LeavesAlways d s s (Beneath first (d.may_leave s.disk))
    beneath_now s first = started d.moment d.left_since s.disk _ (λ c left. (c, only_now s.disk c left, (λ other low. refl)))

  -- ---- one more

  pub elsewhere_beneath : (mid new : Stored D) (number : ℕ) → LeavesAlways d mid new (Elsewhere number (d.may_leave mid.disk)) → LeavesAlways d mid new (Beneath number (d.may_leave mid.disk))
  elsewhere_beneath mid new number run = weaken d.moment d.left_since mid.disk new.disk _ _ run (λ c it. (it.0, it.1, (λ file low. it.2 file (λ same. omega (arith, low, same)))))

  module _ (counts_now : (disk : D) (t : ℕ) (c : Image) → t ≤ d.moment disk → d.may_leave disk c → d.left_since disk t c) (from : ℕ) (old mid new : Stored D) (so_far : LeavesAlways d old mid (Beneath from (d.may_leave old.disk)))
      (number : ℕ) (run : LeavesAlways d mid new (Beneath number (d.may_leave mid.disk))) where
    before_that : (c : Image) → d.may_leave mid.disk c → Beneath from (d.may_leave old.disk) c
    before_that c left = so_far.each c (counts_now mid.disk (d.moment old.disk) c so_far.later left)

    pub beneath_more : from ≤ number → LeavesAlways d old new (Beneath from (d.may_leave old.disk))
    beneath_more le = then d.moment d.left_since old.disk mid.disk new.disk _ _ so_far run
        (λ c it. let was = before_that it.0 it.1 in (was.0, was.1, (λ file low. it.2 file (omega (arith, low, le)) ∙ was.2 file low)))

module _ (columns : List Column) (first number : ℕ) (e c : Image) (same : (file : ℕ) → file < number → c file ≡ e file) where
  written_on : (f : ColumnFile) → IsFileBelow number f → IsWritten columns first e f → IsWritten columns first c f
  written_on (Mem block) below written = tt
  written_on (Tiny file block) below (inl low) = inl low
  written_on (Tiny file block) below (inr it) = inr (it.0, same file below ∙ it.1, it.2)
  written_on (DeleteRange range) below written = tt

  pub are_written_on : (files : List ColumnFile) → AreBelow number files → AreWritten columns first e files → AreWritten columns first c files
  are_written_on [] below written = tt
  are_written_on (f ∷ fs) below written = (written_on f below.0 written.0, are_written_on fs below.1 written.1)

  pub slots_written_on : {G : Type 0} (slots : List (Slotted G)) → AllByRecursion (λ (s : Slotted G). AreBelow number s.files) slots → AllByRecursion (λ (s : Slotted G). AreWritten columns first e s.files) slots → AllByRecursion (λ (s : Slotted G). AreWritten columns first c s.files) slots
  slots_written_on [] below written = tt
  slots_written_on (s ∷ ss) below written = (are_written_on s.files below.0 written.0, slots_written_on ss below.1 written.1)

-- one file more is written
pub written_more : (columns : List Column) (first from : ℕ) (c : Image) (files : List ColumnFile) (i : ℕ) (f : ColumnFile) → slice_get files i ≡ Some f
    → AreWritten columns first c (flushed_files from (take i files)) → IsWritten columns first c (flushed_file (after_files from (take i files)) f) → AreWritten columns first c (flushed_files from (take (i + 1) files))
written_more columns first from c files i f h before one =
    subst (AreWritten columns first c) (sym (flushed_more from files i f h)) (all_both (IsWritten columns first c) (flushed_files from (take i files)) (flushed_file (after_files from (take i files)) f ∷ []) before (one, tt))

-- and one slot more
pub slots_written_more : {G : Type 0} (p : Slotted G → Bool) (columns : List Column) (first from : ℕ) (c : Image) (slots : List (Slotted G)) (i : ℕ) (s : Slotted G) → slice_get slots i ≡ Some s
    → AllByRecursion (λ (t : Slotted G). AreWritten columns first c t.files) (flushed_slots p from (take i slots)) → AreWritten columns first c (one_flushed (p s) (after_slots p from (take i slots)) s).files → AllByRecursion (λ (t : Slotted G). AreWritten columns first c t.files) (flushed_slots p from (take (i + 1) slots))
slots_written_more {G = G} p columns first from c slots i s h before one =
    subst (AllByRecursion (λ (t : Slotted G). AreWritten columns first c t.files)) (sym (next_flushed p from slots i s h))
    (all_both (λ (t : Slotted G). AreWritten columns first c t.files) (flushed_slots p from (take i slots)) (one_flushed (p s) (after_slots p from (take i slots)) s ∷ []) before (one, tt))

-- ---- what is written after one step more

module _ {D R G : Type 0} (d : Ghosts D R G) (counts_now : (disk : D) (t : ℕ) (c : Image) → t ≤ d.moment disk → d.may_leave disk c → d.left_since disk t c) (columns : List Column) (next from : ℕ) (low : next ≤ from) (mid new : Stored D) (number : ℕ) (run : LeavesAlways d mid new (Beneath number (d.may_leave mid.disk))) where
  -- what the new store's images are below the number
  as_before : (c : Image) → d.may_leave new.disk c → Beneath number (d.may_leave mid.disk) c
  as_before c left = run.each c (counts_now new.disk (d.moment mid.disk) c run.later left)

  pub file_more : (files : List ColumnFile) (i : ℕ) (f : ColumnFile) → slice_get files i ≡ Some f → AreBelow next files → number ≡ after_files from (take i files)
      → ((c : Image) → d.may_leave mid.disk c → AreWritten columns next c (flushed_files from (take i files))) → ((c : Image) → d.may_leave new.disk c → IsWritten columns next c (flushed_file number f))
      → (c : Image) → d.may_leave new.disk c → AreWritten columns next c (flushed_files from (take (i + 1) files))
  file_more files i f here below is so_far one c left =
      let it = as_before c left in
      written_more columns next from c files i f here
      (are_written_on columns next number it.0 c it.2 (flushed_files from (take i files)) (subst (λ (n : ℕ). AreBelow n (flushed_files from (take i files))) (sym is) (front_below next from files i low below)) (so_far it.0 it.1))
      (subst (λ (n : ℕ). IsWritten columns next c (flushed_file n f)) is (one c left))

  pub slot_more : {H : Type 0} (p : Slotted H → Bool) (slots : List (Slotted H)) (i : ℕ) (s : Slotted H) → slice_get slots i ≡ Some s → AllByRecursion (λ (t : Slotted H). AreBelow next t.files) slots → number ≡ after_slots p from (take i slots)
      → ((c : Image) → d.may_leave mid.disk c → AllByRecursion (λ (t : Slotted H). AreWritten columns next c t.files) (flushed_slots p from (take i slots))) → ((c : Image) → d.may_leave new.disk c → AreWritten columns next c (one_flushed (p s) number s).files)
      → (c : Image) → d.may_leave new.disk c → AllByRecursion (λ (t : Slotted H). AreWritten columns next c t.files) (flushed_slots p from (take (i + 1) slots))
  slot_more {H = H} p slots i s here below is so_far one c left =
      let it = as_before c left in
      slots_written_more p columns next from c slots i s here
      (slots_written_on columns next number it.0 c it.2 (flushed_slots p from (take i slots))
      (slots_below p next from number low (take i slots) (omega (arith, is)) (all_front (λ (t : Slotted H). AreBelow next t.files) i slots below)) (so_far it.0 it.1))
      (subst (λ (n : ℕ). AreWritten columns next c (one_flushed (p s) n s).files) is (one c left))

  -- what was written of slots below the number is written still
  pub slots_kept : {H : Type 0} (p : Slotted H → Bool) (slots : List (Slotted H)) → AllByRecursion (λ (t : Slotted H). AreBelow next t.files) slots → number ≡ after_slots p from slots
      → ((c : Image) → d.may_leave mid.disk c → AllByRecursion (λ (t : Slotted H). AreWritten columns next c t.files) (flushed_slots p from slots))
      → (c : Image) → d.may_leave new.disk c → AllByRecursion (λ (t : Slotted H). AreWritten columns next c t.files) (flushed_slots p from slots)
  slots_kept {H = H} p slots below is so_far c left =
      let it = as_before c left in
      slots_written_on columns next number it.0 c it.2 (flushed_slots p from slots)
      (slots_below p next from number low slots (omega (arith, is)) below) (so_far it.0 it.1)

-- what stages files from Next on leaves what is named
module _ (m : Manifest) (formed : is_formed m.file m.state ≡ true) (first : ℕ) (fresh : m.state.next ≤ first) (others : Image → Type 0) where
  pub beneath_named : (c : Image) → Beneath first others c → IsNamedIn m others c
  beneath_named c (e, left, same) = (e, left, beneath_next m.file m.state first e c formed fresh same)
