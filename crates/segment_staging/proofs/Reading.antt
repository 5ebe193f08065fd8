-- Segments that are flushed are read in each image that has their new files.
use Rattle.std.proofs.Common.{◌≡◌, ◌∙◌, inl, inr, ℕ, zero, suc, ◌+◌, ◌<◌, ◌≤◌, Bool, true, false, true≢false, cond, nat_le, List, [], ◌∷◌, ◌++◌, length, map, take, drop, replicate, Option, refl, sym, ap, subst, arith}
use Rattle.std.specs.Prelude.{filter}
use Rattle.std.specs.List.{AllByRecursion, filter_map}
use Rattle.column_block.specs.declared.cell.Version.{Version}
use Rattle.column_block.specs.declared.column.Column.{Column}
use Rattle.column_file.specs.declared.file.ColumnFile.{ColumnFile}
use Rattle.column_file.specs.declared.file.ColumnFile.TheVariants.{Mem, Tiny, DeleteRange}
use Rattle.delta_layer.specs.Files.{file_of, files_of, is_mem, is_tiny}
use Rattle.flash_io.specs.Image.{Image}
use Rattle.flash_types.specs.declared.range.HandleRange.{HandleRange}
use Rattle.good_replica.specs.Effect.{clipped}
use Rattle.good_replica.specs.Trail.{DeltaFile, Puts, Segment}
use Rattle.prefix_laws.specs.Tagged.{content, file_in, files_at, is_by}
use Rattle.manifest_form.specs.declared.state.StoredFile.TheVariants as stored
use Rattle.segment_flush.specs.Flushing.{after_one, flushed_slots, one_flushed}
use Rattle.segment_flush.specs.Names.{name_of, stored_of}
use Rattle.segment_list.specs.Flushes.{after_files, flushed_files, flushed_slot}
use Rattle.segment_list.specs.Laws.{told_by}
use Rattle.segment_list.specs.Order.{IsSlot, LiesIn}
use Rattle.segment_list.specs.Slots.{Slotted, is_in, kept, tagged, tags_of}
use Rattle.segment_list.proofs.Telling.{clip_file_says}
use Rattle.stable_file.specs.declared.file.StableFile.{StableFile}
use Rattle.store_image.specs.Images.{AreFilesRead, AreSegmentsRead, IsFileRead, IsSegmentRead}
use Rattle.segment_flush.proofs.Planned.{all_there}
use Rattle.segment_staging.specs.Staging.{AreWritten, IsWritten}
use Rattle.segment_staging.proofs.Numbered.{no_fewer}

-- ---- what is there at a count

at_least : (k : ℕ) → nat_le 0 k ≡ true
at_least k = grind arith

is_later : (t k : ℕ) → k < t → nat_le t k ≡ false
is_later t k less = grind arith

-- of the files that come later none is there, and all that are named are
later_none : (k : ℕ) (tags : List ℕ) (files : List ColumnFile) → AllByRecursion (λ (t : ℕ). k < t) tags → files_at k (tagged tags files) ≡ []
later_none k [] files all = refl
later_none k (t ∷ ts) [] all = refl
later_none k (t ∷ ts) (f ∷ fs) all = (λ i. map file_in (cond (is_later t k all.0 i) (record { tag = t; file = file_of f } ∷ filter (is_by k) (tagged ts fs)) (filter (is_by k) (tagged ts fs)))) ∙ later_none k ts fs all.1

named_there : (k named : ℕ) (tags : List ℕ) (files : List ColumnFile) → AllByRecursion (λ (t : ℕ). k < t) tags → files_at k (tagged (replicate named 0 ++ tags) files) ≡ files_of (take named files)
named_there k zero tags files all = later_none k tags files all
named_there k (suc named) tags [] all = refl
named_there k (suc named) tags (f ∷ fs) all =
    (λ i. map file_in (cond (at_least k i) (record { tag = 0; file = file_of f } ∷ filter (is_by k) (tagged (replicate named 0 ++ tags) fs)) (filter (is_by k) (tagged (replicate named 0 ++ tags) fs))))
    ∙ ap (λ (r : List DeltaFile). file_of f ∷ r) (named_there k named tags fs all)

-- ---- files

kept_all : (range : HandleRange) (block : List Version) → AllByRecursion (λ (v : Version). is_in range v ≡ true) block → kept range block ≡ block
kept_all range [] all = refl
kept_all range (v ∷ vs) all = (λ i. cond (all.0 i) (v ∷ kept range vs) (kept range vs)) ∙ ap (λ (r : List Version). v ∷ r) (kept_all range vs all.1)

inside : (range : HandleRange) (block : List Version) → AllByRecursion (λ (v : Version). is_in range v ≡ true) block → Puts block ≡ clipped range (Puts block)
inside range block all = sym (ap (λ (vs : List Version). Puts vs) (kept_all range block all)) ∙ clip_file_says range (Mem block)

module _ (own : ℕ) (c : Image) (columns : List Column) (range : HandleRange) (first : ℕ) (own_below : own < first) where
  -- those that were named are read as before, and the new ones as they are written
  read_all : (n named : ℕ) (files : List ColumnFile) → first ≤ n
      → AllByRecursion (λ (f : ColumnFile). is_mem f ≡ false) (take named files) → AllByRecursion (λ (f : ColumnFile). is_tiny f ≡ false) (drop named files)
      → AllByRecursion (LiesIn range) files
      → AreFilesRead own c columns range (filter_map name_of (take named files)) (files_of (take named files))
      → AreWritten columns first c (flushed_files n files)
      → AreFilesRead own c columns range (filter_map name_of (flushed_files n files)) (files_of files)
  read_all n named [] le no_mem no_tiny lies old written = tt
  read_all n (suc named) (Mem block ∷ fs) le no_mem no_tiny lies old written = absurd (true≢false no_mem.0)
  read_all n (suc named) (Tiny file block ∷ fs) le no_mem no_tiny lies old written = (old.0, read_all n named fs le no_mem.1 no_tiny lies.1 old.1 written.1)
  read_all n (suc named) (DeleteRange other ∷ fs) le no_mem no_tiny lies old written = (old.0, read_all n named fs le no_mem.1 no_tiny lies.1 old.1 written.1)
  read_all n zero (Mem block ∷ fs) le no_mem no_tiny lies old written = (new written.0, read_all (n + 1) zero fs (omega (arith, le)) tt no_tiny.1 lies.1 tt written.1)
    where
      new : IsWritten columns first c (Tiny n block) → IsFileRead own c columns range (stored.Tiny n) (Puts block)
      new (inl low) = absurd (omega (arith, low, le))
      new (inr is) = ((λ same. omega (arith, same, le, own_below)), (λ same. omega (arith, same, le, own_below)), (is.0, is.1, (block, is.2, inside range block lies.0)))
  read_all n zero (Tiny file block ∷ fs) le no_mem no_tiny lies old written = absurd (true≢false no_tiny.0)
  read_all n zero (DeleteRange other ∷ fs) le no_mem no_tiny lies old written = (refl, read_all n zero fs le tt no_tiny.1 lies.1 tt written.1)

same_say : (n : ℕ) (fs : List ColumnFile) → files_of (flushed_files n fs) ≡ files_of fs
same_say n [] = refl
same_say n (Mem block ∷ fs) = ap (λ (r : List DeltaFile). file_of (Mem block) ∷ r) (same_say (n + 1) fs)
same_say n (Tiny file block ∷ fs) = ap (λ (r : List DeltaFile). file_of (Tiny file block) ∷ r) (same_say n fs)
same_say n (DeleteRange range ∷ fs) = ap (λ (r : List DeltaFile). file_of (DeleteRange range) ∷ r) (same_say n fs)

later : (k last : ℕ) (tags : List ℕ) → AllByRecursion (λ (t : ℕ). (k < t) × (t ≤ last)) tags → AllByRecursion (λ (t : ℕ). k < t) tags
later k last [] all = tt
later k last (t ∷ ts) all = (all.0.0, later k last ts all.1)

module _ {G : Type 0} (read : Option (StableFile G) → List Version) (own : ℕ) (c : Image) (columns : List Column) (first : ℕ) (own_below : own < first) (k last : ℕ) where
  abbrev now : Slotted G → Segment
  now s = content k (told_by read s)

  slot_read : (n : ℕ) (s : Slotted G) → first ≤ n → IsSlot k last s → IsSegmentRead own c columns (stored_of s) (now s) → AreWritten columns first c (flushed_files n s.files) → IsSegmentRead own c columns (stored_of (flushed_slot n s)) (now (flushed_slot n s))
  slot_read n s le is was written = record {
    range = refl;
    stable = was.stable;
    delta = subst (λ (fs : List ColumnFile). AreFilesRead own c columns s.range (filter_map name_of fs) (files_at k (tagged (tags_of (flushed_slot n s)) (flushed_files n s.files)))) (sym (all_there n s.files))
        (subst (AreFilesRead own c columns s.range (filter_map name_of (flushed_files n s.files))) (sym (named_there k (length s.files) [] (flushed_files n s.files) tt ∙ ap files_of (all_there n s.files) ∙ same_say n s.files))
        (read_all own c columns s.range first own_below n s.named s.files le is.named is.behind is.rows
        (subst (AreFilesRead own c columns s.range (filter_map name_of (take s.named s.files))) (named_there k s.named s.tags s.files (later k last s.tags is.tags)) was.delta)
        written));
  }

  pub slots_read : (p : Slotted G → Bool) (n : ℕ) (slots : List (Slotted G)) → first ≤ n → AllByRecursion (IsSlot k last) slots
      → AreSegmentsRead own c columns (map stored_of slots) (map (content k) (map (told_by read) slots))
      → AllByRecursion (λ (s : Slotted G). AreWritten columns first c s.files) (flushed_slots p n slots)
      → AreSegmentsRead own c columns (map stored_of (flushed_slots p n slots)) (map (content k) (map (told_by read) (flushed_slots p n slots)))
  slots_read p n [] le all was written = tt
  slots_read p n (s ∷ ss) le all was written = by (p s) written (λ k up done. slots_read p k ss up all.1 was.1 done)
    where
      by : (b : Bool) → AllByRecursion (λ (t : Slotted G). AreWritten columns first c t.files) (one_flushed b n s ∷ flushed_slots p (after_one b n s) ss)
          → ((j : ℕ) → first ≤ j → AllByRecursion (λ (t : Slotted G). AreWritten columns first c t.files) (flushed_slots p j ss) → AreSegmentsRead own c columns (map stored_of (flushed_slots p j ss)) (map (content k) (map (told_by read) (flushed_slots p j ss))))
          → AreSegmentsRead own c columns (map stored_of (one_flushed b n s ∷ flushed_slots p (after_one b n s) ss)) (map (content k) (map (told_by read) (one_flushed b n s ∷ flushed_slots p (after_one b n s) ss)))
      by true written rest =
          let more = no_fewer n s.files in
          (slot_read n s le all.0 was.0 written.0, rest (after_files n s.files) (omega (arith, le, more)) written.1)
      by false written rest = (was.0, rest n le written.1)
