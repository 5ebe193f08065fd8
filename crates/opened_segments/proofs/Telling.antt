-- What an opening tells of the segments that an image has.
use Rattle.std.proofs.Common.{◌≡◌, ◌∙◌, ℕ, List, [], ◌∷◌, ◌++◌, length, take, map, Option, Some, None, Result, Ok, refl, sym, ap, subst}
use Rattle.std.proofs.Math.Seq.{take-length}
use Rattle.std.specs.List.{AllByRecursion, filter_map, flat_map}
use Rattle.flash_io.specs.Image.{Image}
use Rattle.flash_types.specs.declared.range.HandleRange.{HandleRange}
use Rattle.column_block.specs.declared.cell.Version.{Version}
use Rattle.column_block.specs.declared.column.Column.{Column}
use Rattle.column_file.specs.declared.file.ColumnFile.{ColumnFile}
use Rattle.column_file.specs.declared.file.ColumnFile.TheVariants.{Mem, Tiny, DeleteRange}
use Rattle.delta_layer.specs.Files.{files_of}
use Rattle.delta_layer.specs.Stable.{packs_in, stable_in}
use Rattle.good_replica.specs.Changed.{of_parts}
use Rattle.good_replica.specs.Trail.{DeltaFile, Puts, Segment}
use Rattle.manifest_form.specs.declared.state.StoredFile.{StoredFile}
use Rattle.manifest_form.specs.declared.state.StoredFile.TheVariants as stored
use Rattle.manifest_form.specs.declared.state.StoredSegment.{StoredSegment}
use Rattle.pack_codec.specs.declared.fault.FormError.{FormError}
use Rattle.column_file.specs.Tiny.{tiny_at}
use Rattle.stable_file.specs.Footer.{tail_at}
use Rattle.stable_file.specs.declared.pack.Pack.{Pack}
use Rattle.stable_file.specs.declared.file.StableFile.{StableFile}
use Rattle.stable_file.specs.Opened.{grip_of, packs_of, schema_of}
use Rattle.segment_list.specs.Slots.{Slotted, kept}
use Rattle.segment_snapshot.specs.Rights.{AreReadable, Reads, stable_of, versions_or_none, whole}
use Rattle.store_image.specs.Images.{AreFilesRead, AreSegmentsRead, IsFileRead, IsSegmentRead, IsStableRead}
use Rattle.segment_flush.specs.Names.{name_of, stored_of}
use Rattle.opened_segments.specs.Faults.{IsFirst, data_faults, faults_in, part_faults, reading_faults, segment_faults, stable_faults}
use Rattle.opened_segments.specs.Laws.{AreTold}
use Rattle.opened_segments.specs.Opened.{IsPartIn, IsSlotIn, IsStableIn}
use Rattle.opened_segments.specs.declared.fault.OpenFault.{OpenFault}
use Rattle.opened_segments.proofs.Judging.{data_there, none_both}

some_is : {X : Type 0} {a b : X} → Some a ≡ Some b → a ≡ b
some_is e = cc

ok_is : {X E : Type 0} {a b : X} → ◌≡◌ {A = Result X E} (Ok a) (Ok b) → a ≡ b
ok_is e = cc

ap2 : {X Y Z : Type 0} (f : X → Y → Z) {a b : X} {c d : Y} → a ≡ b → c ≡ d → f a c ≡ f b d
ap2 f p q = λ i. f (p i) (q i)

take_all : {X : Type 0} (n : ℕ) (xs : List X) → n ≡ length xs → take n xs ≡ xs
take_all n xs is = ap (λ (k : ℕ). take k xs) is ∙ take-length xs

module _ (own : ℕ) (c : Image) (columns : List Column) where
  -- ---- the files of a delta

  files_told : (range : HandleRange) (fs : List ColumnFile) (ds : List DeltaFile) → AllByRecursion (IsPartIn own c columns range) fs → AreFilesRead own c columns range (filter_map name_of fs) ds → ds ≡ files_of fs
  files_told range [] [] all read = refl
  files_told range [] (d ∷ ds) all read = absurd read
  files_told range (Mem block ∷ fs) ds all read = absurd all.0
  files_told range (Tiny file block ∷ fs) [] all read = absurd read
  files_told range (Tiny file block ∷ fs) (d ∷ ds) ((_, _, (bytes, here, (versions, reads, is))), all) ((_, _, (others, there, (read, again, clipped))), more) =
      let same : bytes ≡ others = some_is (sym here ∙ there) in
      let one : versions ≡ read = ok_is (sym reads ∙ ap (tiny_at columns) same ∙ again) in
      ap2 (λ (x : DeltaFile) (xs : List DeltaFile). x ∷ xs) (clipped ∙ ap (λ (vs : List Version). Puts (kept range vs)) (sym one) ∙ ap Puts (sym is)) (files_told range fs ds all more)
  files_told range (DeleteRange cleared ∷ fs) [] all read = absurd read
  files_told range (DeleteRange cleared ∷ fs) (d ∷ ds) all read = ap2 (λ (x : DeltaFile) (xs : List DeltaFile). x ∷ xs) read.0 (files_told range fs ds all.1 read.1)

  files_there : (range : HandleRange) (fs : List ColumnFile) → AllByRecursion (IsPartIn own c columns range) fs → AreFilesRead own c columns range (filter_map name_of fs) (files_of fs)
  files_there range [] all = tt
  files_there range (Mem block ∷ fs) all = absurd all.0
  files_there range (Tiny file block ∷ fs) ((root, apart, (bytes, here, (versions, reads, is))), all) = ((root, apart, (bytes, here, (versions, reads, ap Puts is))), files_there range fs all)
  files_there range (DeleteRange cleared ∷ fs) all = (refl, files_there range fs all.1)

  -- ---- stable parts

  module _ {G : Type 0} (bytes : G → List ℕ) where
    held_reads : (content : List ℕ) (part : StableFile G) → bytes (grip_of part) ≡ content → schema_of part ≡ columns → stable_in bytes (Some part) ≡ packs_in columns content (packs_of part)
    held_reads content part grip schema = ap2 (λ (cs : List Column) (b : List ℕ). packs_in cs b (packs_of part)) schema grip

    stable_told : (file : Option ℕ) (part : Option (StableFile G)) (versions : List Version) → IsStableIn bytes own c columns file part → IsStableRead own c columns file versions → stable_in bytes part ≡ Ok versions
    stable_told None None versions is read = ap Ok (sym read)
    stable_told None (Some part) versions is read = absurd is
    stable_told (Some file) None versions is read = absurd is
    stable_told (Some file) (Some part) versions (_, _, (content, here, held)) (_, _, (others, there, (packs, footer, reads))) =
        let same : content ≡ others = some_is (sym here ∙ there) in
        let one : packs_of part ≡ packs = ok_is (sym held.footer ∙ ap (λ (b : List ℕ). tail_at (length b) columns b) same ∙ footer) in
        held_reads content part held.grip held.schema ∙ ap2 (λ (b : List ℕ) (ps : List Pack). packs_in columns b ps) same one ∙ reads

    stable_there : (file : Option ℕ) (part : Option (StableFile G)) → IsStableIn bytes own c columns file part → Reads bytes part → IsStableRead own c columns file (stable_of bytes part)
    stable_there None None is reads = refl
    stable_there None (Some part) is reads = absurd is
    stable_there (Some file) None is reads = absurd is
    stable_there (Some file) (Some part) (root, apart, (content, here, held)) reads = (
      root,
      apart,
      (content, here, (packs_of part, held.footer, sym (held_reads content part held.grip held.schema) ∙ reads.1 ∙ ap Ok (sym (ap versions_or_none reads.1)))),
    )

    -- ---- segments

    slot_told : (s : Slotted G) (t : Segment) → IsSlotIn bytes own c columns s → IsSegmentRead own c columns (stored_of s) t → Reads bytes s.stable × (t ≡ whole bytes s)
    slot_told s t is read =
        let stable = stable_told s.stable_number s.stable t.stable is.stable read.stable in
        let delta : t.delta ≡ files_of s.files = files_told s.range s.files t.delta is.files (subst (λ (fs : List ColumnFile). AreFilesRead own c columns s.range (filter_map name_of fs) t.delta) (take_all s.named s.files is.all) read.delta) in
        ((t.stable, stable), (λ i. of_parts (read.range i) ((sym (ap versions_or_none stable)) i) (delta i)))

    slot_there : (s : Slotted G) → IsSlotIn bytes own c columns s → Reads bytes s.stable → IsSegmentRead own c columns (stored_of s) (whole bytes s)
    slot_there s is reads = record {
      range = refl;
      stable = stable_there s.stable_number s.stable is.stable reads;
      delta = subst (λ (fs : List ColumnFile). AreFilesRead own c columns s.range (filter_map name_of fs) (files_of s.files)) (sym (take_all s.named s.files is.all)) (files_there s.range s.files is.files);
    }

    pub slots_told : (slots : List (Slotted G)) (segments : List Segment) → AllByRecursion (IsSlotIn bytes own c columns) slots → AreSegmentsRead own c columns (map stored_of slots) segments → AreTold bytes segments slots
    slots_told [] [] all read = record { readable = tt; same = refl }
    slots_told [] (t ∷ ts) all read = absurd read
    slots_told (s ∷ ss) [] all read = absurd read
    slots_told (s ∷ ss) (t ∷ ts) all read =
        let here = slot_told s t all.0 read.0 in
        let more = slots_told ss ts all.1 read.1 in
        record { readable = (here.0, more.readable); same = ap2 (λ (x : Segment) (xs : List Segment). x ∷ xs) here.1 more.same }

    pub slots_there : (slots : List (Slotted G)) → AllByRecursion (IsSlotIn bytes own c columns) slots → AreReadable bytes slots → AreSegmentsRead own c columns (map stored_of slots) (map (whole bytes) slots)
    slots_there [] all reads = tt
    slots_there (s ∷ ss) all reads = (slot_there s all.0 reads.0, slots_there ss all.1 reads.1)

  -- ---- no fault is found

  file_sound : (range : HandleRange) (s : StoredFile) (d : DeltaFile) → IsFileRead own c columns range s d → part_faults own c columns s ≡ []
  file_sound range (stored.Tiny file) d (root, apart, (bytes, here, (versions, reads, is))) = ap (data_faults (tiny_at columns) file) (data_there own c file root apart ∙ here) ∙ ap (reading_faults file) reads
  file_sound range (stored.DeleteRange cleared) d read = refl

  files_sound : (range : HandleRange) (ss : List StoredFile) (ds : List DeltaFile) → AreFilesRead own c columns range ss ds → flat_map (part_faults own c columns) ss ≡ []
  files_sound range [] ds read = refl
  files_sound range (s ∷ ss) [] read = absurd read
  files_sound range (s ∷ ss) (d ∷ ds) read = none_both (part_faults own c columns s) (flat_map (part_faults own c columns) ss) (file_sound range s d read.0) (files_sound range ss ds read.1)

  stable_sound : (file : Option ℕ) (versions : List Version) → IsStableRead own c columns file versions → stable_faults own c columns file ≡ []
  stable_sound None versions read = refl
  stable_sound (Some file) versions (root, apart, (content, here, (packs, footer, reads))) = ap (data_faults (λ (b : List ℕ). tail_at (length b) columns b) file) (data_there own c file root apart ∙ here) ∙ ap (reading_faults file) footer

  pub segments_sound : (ss : List StoredSegment) (ts : List Segment) → AreSegmentsRead own c columns ss ts → faults_in own c columns ss ≡ []
  segments_sound [] ts read = refl
  segments_sound (s ∷ ss) [] read = absurd read
  segments_sound (s ∷ ss) (t ∷ ts) read =
      none_both (segment_faults own c columns s) (faults_in own c columns ss)
      (none_both (flat_map (part_faults own c columns) s.delta) (stable_faults own c columns s.stable) (files_sound s.range s.delta t.delta read.0.delta) (stable_sound s.stable t.stable read.0.stable)) (segments_sound ss ts read.1)

pub no_first : (faults : List OpenFault) (e : OpenFault) → faults ≡ [] → IsFirst e faults → ⊥
no_first faults e none first = absurd (cc (sym none ∙ first.1))
