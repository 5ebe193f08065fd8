-- What installs keep good.
use Rattle.std.proofs.Common.{◌≡◌, ◌∙◌, refl, sym, ap, subst, ℕ, suc, ◌+◌, ◌-◌, ◌<◌, ◌≤◌, Bool, true, Option, Some, None, List, [], ◌∷◌, ◌++◌, length, map, arith}
use Rattle.std.specs.Prelude.{slice_range}
use Rattle.std.specs.List.{AllByRecursion, flat_map}
use Rattle.std.proofs.lemmas.List.{take-append-drop}
use Rattle.column_block.specs.declared.cell.Version.{Version}
use Rattle.column_file.specs.declared.file.ColumnFile.{ColumnFile}
use Rattle.column_file.specs.declared.file.ColumnFile.TheVariants.{Tiny}
use Rattle.committed_log.specs.Lawful.{IsLawful}
use Rattle.committed_log.specs.Log.{Log}
use Rattle.delta_layer.specs.Built.{AreTwo, IsOne}
use Rattle.delta_layer.specs.Files.{files_of, is_tiny}
use Rattle.delta_layer.specs.Overlay.{block_in}
use Rattle.delta_layer.specs.declared.built.Piece.{Piece}
use Rattle.delta_layer.specs.declared.view.SegmentView.{SegmentView}
use Rattle.flash_types.specs.declared.range.HandleRange.{HandleRange}
use Rattle.good_replica.specs.Good.{AreGood}
use Rattle.good_replica.specs.Trail.{DeltaFile}
use Rattle.prefix_laws.specs.Prefixes.{ArePrefixesGood, AreSteps}
use Rattle.prefix_laws.specs.Tagged.{Tagged, TaggedSegment, content, file_in, tagged_of}
use Rattle.prefix_laws.specs.Views.{AreBy, IsTakenAt, Side, behind, segment_of}
use Rattle.prefix_laws.proofs.Counts.{middle}
use Rattle.prefix_laws.proofs.Replica.{changed, changed_once}
use Rattle.segment_laws.specs.Given.{HasBoth, HasBothOf, HasCollected, HasHalves, both_of, half_of}
use Rattle.segment_laws.specs.Runs.{IsFirstRun, IsNamedRun, run_of, with_run}
use Rattle.segment_laws.proofs.Installing.{delta_merge_installs, delta_merge_installs_once, merge_installs, merge_installs_once, split_installs, split_installs_once}
use Rattle.segment_laws.proofs.Packs.{run_compacts, run_compacts_once}
use Rattle.segment_list.specs.Laws.{told_by}
use Rattle.segment_list.specs.Order.{IsSlot}
use Rattle.segment_list.specs.Slots.{Slotted}
use Rattle.stable_file.specs.declared.file.StableFile.{StableFile}
use Rattle.segment_install.specs.Slots.{Fits, compacted_slot, half_slot, joined_slot, merged_slot, part_file}
use Rattle.segment_install.specs.Plans.{part_of}
use Rattle.segment_install.specs.Told.{all_told, rest_told, side_of, taken_told}
use Rattle.segment_install.proofs.Orders.{all_imply}
use Rattle.segment_install.proofs.Running.{run_named, run_of_front, run_tinies, same_slice}
use Rattle.segment_install.proofs.Sides.{all_said, run_by, taken_at, taken_known, taken_said}
use Rattle.segment_install.proofs.Telling.{compacted_says, half_says, joined_says, merged_says}

-- What takes the place of segments keeps what is said of all of them, whatever stands before and behind them.
pub record Keeps (P : List TaggedSegment → Type 0) (olds news : List TaggedSegment) : Type 0 where
  pub keeps : (before after : List TaggedSegment) → P (before ++ (olds ++ after)) → P (before ++ (news ++ after))

-- the laws of the jobs for what is said
pub record Laws (P : List TaggedSegment → Type 0) (safe committed last : ℕ) : Type 0 where
  pub merge_delta : (before after : List TaggedSegment) (range : HandleRange) (stable : List Version) (taken rest : List Tagged) (at at_safe : ℕ) (pieces : List Piece) → IsTakenAt committed last at taken rest → AreBy last taken → at_safe ≤ safe → (has : HasCollected at_safe range stable (map file_in taken) pieces) → P (before ++ (tagged_of range stable (taken ++ rest) ∷ after)) → P (before ++ (tagged_of range has.piece.versions rest ∷ after))
  pub split : (before after : List TaggedSegment) (range : HandleRange) (stable : List Version) (taken rest : List Tagged) (at : ℕ) (pieces : List Piece) → IsTakenAt committed last at taken rest → AreBy last taken → (has : HasHalves range stable (map file_in taken) pieces) → P (before ++ (tagged_of range stable (taken ++ rest) ∷ after)) → P (before ++ (half_of has.low rest ∷ half_of has.high rest ∷ after))
  pub join : (before after : List TaggedSegment) (left right : Side) (left_at right_at : ℕ) (pieces : List Piece) → IsTakenAt committed last left_at left.taken (behind left) → IsTakenAt committed last right_at right.taken (behind right) → AreBy last left.taken → AreBy last right.taken → (has : HasBothOf left right pieces) → P (before ++ (segment_of left ∷ segment_of right ∷ after)) → P (before ++ (both_of left right has.piece ∷ after))
  pub compact : (before after : List TaggedSegment) (range : HandleRange) (stable : List Version) (files : List Tagged) (layer : List ColumnFile) (start end : ℕ) → IsNamedRun committed 0 layer start end files → P (before ++ (tagged_of range stable files ∷ after)) → P (before ++ (tagged_of range stable (with_run 0 layer start end files) ∷ after))

pub laws_at_counts : (log : Log) → IsLawful log → (S : ℕ → ℕ → Bool) (m safe committed last : ℕ) → AreSteps S m last → Laws (ArePrefixesGood log S m safe committed last) safe committed last
laws_at_counts log lawful S m safe committed last steps = record {
  merge_delta = λ before after range stable taken rest at at_safe pieces view known under has. delta_merge_installs log lawful S m safe committed last steps before after range stable taken rest at at_safe pieces view under has;
  split = λ before after range stable taken rest at pieces view known has. split_installs log lawful S m safe committed last steps before after range stable taken rest at pieces view has;
  join = λ before after left right left_at right_at pieces a b known others has. merge_installs log lawful S m safe committed last steps before after left right left_at right_at pieces a b has;
  compact = λ before after range stable files layer start end is. changed log S m safe committed last before (tagged_of range stable files) (tagged_of range stable (with_run 0 layer start end files)) after refl (run_compacts log S m safe committed last range stable files layer start end 0 is);
}

later_run : (committed last : ℕ) (layer : List ColumnFile) (start end : ℕ) (files : List Tagged) → committed ≤ last → IsNamedRun committed 0 layer start end files → IsNamedRun last 0 layer start end files
later_run committed last layer start end files order is = record {
  are = is.are;
  run = is.run;
  by = all_imply (λ (f : Tagged). f.tag ≤ committed) (λ (f : Tagged). f.tag ≤ last) (λ f e. omega (arith, e, order)) (slice_range files start end) is.by;
  one_by = omega arith;
}

pub laws_of_all : (log : Log) → IsLawful log → (A : ℕ → Bool) (m safe committed last : ℕ) → committed ≤ last → Laws (λ (segments : List TaggedSegment). AreGood log A m safe (map (content last) segments)) safe committed last
laws_of_all log lawful A m safe committed last order = record {
  merge_delta = λ before after range stable taken rest at at_safe pieces view known under has. delta_merge_installs_once log lawful A m safe last before after range stable taken rest at_safe pieces known under has;
  split = λ before after range stable taken rest at pieces view known has. split_installs_once log lawful A m safe last before after range stable taken rest pieces known has;
  join = λ before after left right left_at right_at pieces a b known others has. merge_installs_once log lawful A m safe last before after left right pieces known others has;
  compact = λ before after range stable files layer start end is. changed_once log A m safe last before (tagged_of range stable files) (tagged_of range stable (with_run 0 layer start end files)) after refl (run_compacts_once log A m safe last range stable files layer start end 0 (later_run committed last layer start end files order is));
}

part_is : {G : Type 0} (number : ℕ) (file : Option (StableFile G)) → part_file (part_of number file) ≡ file
part_is number None = refl
part_is number (Some file) = refl

module _ {G : Type 0} (P : List TaggedSegment → Type 0) (safe committed last : ℕ) (laws : Laws P safe committed last) (order : committed ≤ last) (read : Option (StableFile G) → List Version) where
  abbrev tell : Slotted G → TaggedSegment
  tell = told_by read

  -- the files in two parts
  whole_is : (n : ℕ) (s : Slotted G) → tell s ≡ tagged_of s.range (read s.stable) (taken_told n s ++ rest_told n s)
  whole_is n s = ap (λ (fs : List Tagged). tagged_of s.range (read s.stable) fs) (sym (take-append-drop n (all_told s)))

  pub merge_delta_keeps : (first at_safe : ℕ) (file : Option (StableFile G)) (v : SegmentView G) (s : Slotted G) (pieces : List Piece) → Fits v s → IsSlot committed last s → at_safe ≤ safe → HasCollected at_safe v.range (read v.stable) (files_of v.delta) pieces → IsOne (λ (piece : Piece). read file ≡ piece.versions) pieces → Keeps P (tell s ∷ []) (tell (merged_slot (length v.delta) (part_of first file) s) ∷ [])
  merge_delta_keeps first at_safe file v s pieces fits is under has have = record {
    keeps = λ before after good.
        subst (λ (x : TaggedSegment). P (before ++ (x ∷ after))) (sym new)
        (laws.merge_delta before after s.range (read s.stable) (taken_told n s) (rest_told n s) (middle committed last fits.count) at_safe pieces (taken_at committed last v s fits is order) (taken_known committed last v s fits is) under moved
        (subst (λ (x : TaggedSegment). P (before ++ (x ∷ after))) (whole_is n s) good));
  }
    where
      n : ℕ
      n = length v.delta

      moved : HasCollected at_safe s.range (read s.stable) (map file_in (taken_told (length v.delta) s)) pieces
      moved =
          subst (λ (fs : List DeltaFile). HasCollected at_safe s.range (read s.stable) fs pieces) (sym (taken_said v s fits is.tagged))
          (subst (λ (part : Option (StableFile G)). HasCollected at_safe s.range (read part) (files_of v.delta) pieces) (sym fits.stable)
          (subst (λ (range : HandleRange). HasCollected at_safe range (read v.stable) (files_of v.delta) pieces) (sym fits.range) has))

      new : tell (merged_slot (length v.delta) (part_of first file) s) ≡ tagged_of s.range moved.piece.versions (rest_told (length v.delta) s)
      new =
          merged_says (length v.delta) (part_of first file) (read (part_file (part_of first file))) s
          ∙ ap (λ (vs : List Version). tagged_of s.range vs (rest_told (length v.delta) s)) (ap read (part_is first file) ∙ subst (IsOne (λ (piece : Piece). read file ≡ piece.versions)) moved.only have)

  pub split_keeps : (first : ℕ) (low high : Option (StableFile G)) (v : SegmentView G) (s : Slotted G) (x y : Piece) (pieces : List Piece) → Fits v s → IsSlot committed last s → pieces ≡ x ∷ y ∷ [] → HasHalves v.range (read v.stable) (files_of v.delta) pieces → AreTwo (λ (l u : Piece). (read low ≡ l.versions) × (read high ≡ u.versions)) pieces → Keeps P (tell s ∷ []) (tell (half_slot (first + 2) x.range (part_of first low) (length v.delta) s) ∷ tell (half_slot (first + 3) y.range (part_of (first + 1) high) (length v.delta) s) ∷ [])
  split_keeps first low high v s x y pieces fits is are has have = record {
    keeps = λ before after good.
        subst (λ (t : TaggedSegment). P (before ++ (t ∷ tell (half_slot (first + 3) y.range (part_of (first + 1) high) (length v.delta) s) ∷ after))) (sym new_low)
        (subst (λ (t : TaggedSegment). P (before ++ (half_of moved.low (rest_told (length v.delta) s) ∷ t ∷ after))) (sym new_high)
        (laws.split before after s.range (read s.stable) (taken_told (length v.delta) s) (rest_told (length v.delta) s) (middle committed last fits.count) pieces (taken_at committed last v s fits is order) (taken_known committed last v s fits is) moved
        (subst (λ (t : TaggedSegment). P (before ++ (t ∷ after))) (whole_is (length v.delta) s) good)));
  }
    where
      moved : HasHalves s.range (read s.stable) (map file_in (taken_told (length v.delta) s)) pieces
      moved =
          subst (λ (fs : List DeltaFile). HasHalves s.range (read s.stable) fs pieces) (sym (taken_said v s fits is.tagged))
          (subst (λ (part : Option (StableFile G)). HasHalves s.range (read part) (files_of v.delta) pieces) (sym fits.stable)
          (subst (λ (range : HandleRange). HasHalves range (read v.stable) (files_of v.delta) pieces) (sym fits.range) has))

      both : AreTwo (λ (l u : Piece). (read low ≡ l.versions) × (read high ≡ u.versions)) (x ∷ y ∷ [])
      both = subst (AreTwo (λ (l u : Piece). (read low ≡ l.versions) × (read high ≡ u.versions))) are have

      first_same : {a b c d : Piece} → ◌≡◌ {A = List Piece} (a ∷ b ∷ []) (c ∷ d ∷ []) → a ≡ c
      first_same e = cc e

      second_same : {a b c d : Piece} → ◌≡◌ {A = List Piece} (a ∷ b ∷ []) (c ∷ d ∷ []) → b ≡ d
      second_same e = cc e

      half_is : (id number : ℕ) (file : Option (StableFile G)) (piece : Piece) → read file ≡ piece.versions → tell (half_slot id piece.range (part_of number file) (length v.delta) s) ≡ half_of piece (rest_told (length v.delta) s)
      half_is id number file piece e = ap (λ (vs : List Version). tagged_of piece.range vs (half_slot_files id piece number file)) (ap read (part_is number file) ∙ e) ∙ half_says id (part_of number file) (length v.delta) piece s is.tagged
        where
          half_slot_files : ℕ → Piece → ℕ → Option (StableFile G) → List Tagged
          half_slot_files id piece number file = all_told (half_slot id piece.range (part_of number file) (length v.delta) s)

      new_low : tell (half_slot (first + 2) x.range (part_of first low) (length v.delta) s) ≡ half_of moved.low (rest_told (length v.delta) s)
      new_low = half_is (first + 2) first low x both.0 ∙ ap (λ (p : Piece). half_of p (rest_told (length v.delta) s)) (first_same (sym are ∙ moved.only))

      new_high : tell (half_slot (first + 3) y.range (part_of (first + 1) high) (length v.delta) s) ≡ half_of moved.high (rest_told (length v.delta) s)
      new_high = half_is (first + 3) (first + 1) high y both.1 ∙ ap (λ (p : Piece). half_of p (rest_told (length v.delta) s)) (second_same (sym are ∙ moved.only))

  side_whole : (n : ℕ) (s : Slotted G) → tell s ≡ segment_of (side_of n (read s.stable) s)
  side_whole n s = whole_is n s ∙ ap (λ (fs : List Tagged). tagged_of s.range (read s.stable) (taken_told n s ++ fs)) (sym (take-append-drop (s.named - n) (rest_told n s)))

  pub join_keeps : (first : ℕ) (file : Option (StableFile G)) (v w : SegmentView G) (l r : Slotted G) (x : Piece) (pieces : List Piece) → Fits v l → Fits w r → IsSlot committed last l → IsSlot committed last r → pieces ≡ x ∷ [] → HasBoth v.range w.range (read v.stable) (read w.stable) (files_of v.delta) (files_of w.delta) pieces → IsOne (λ (piece : Piece). read file ≡ piece.versions) pieces → Keeps P (tell l ∷ tell r ∷ []) (tell (joined_slot (first + 1) x.range (part_of first file) (length v.delta) l (length w.delta) r) ∷ [])
  join_keeps first file v w l r x pieces fits_l fits_r is_l is_r are has have = record {
    keeps = λ before after good.
        subst (λ (t : TaggedSegment). P (before ++ (t ∷ after))) (sym new)
        (laws.join before after left right (middle committed last fits_l.count) (middle committed last fits_r.count) pieces
        (subst (IsTakenAt committed last (middle committed last fits_l.count) (taken_told (length v.delta) l)) (sym (take-append-drop (l.named - length v.delta) (rest_told (length v.delta) l))) (taken_at committed last v l fits_l is_l order))
        (subst (IsTakenAt committed last (middle committed last fits_r.count) (taken_told (length w.delta) r)) (sym (take-append-drop (r.named - length w.delta) (rest_told (length w.delta) r))) (taken_at committed last w r fits_r is_r order))
        (taken_known committed last v l fits_l is_l) (taken_known committed last w r fits_r is_r) moved
        (subst (λ (t : TaggedSegment). P (before ++ (segment_of left ∷ t ∷ after))) (side_whole (length w.delta) r)
        (subst (λ (t : TaggedSegment). P (before ++ (t ∷ tell r ∷ after))) (side_whole (length v.delta) l) good)));
  }
    where
      left : Side
      left = side_of (length v.delta) (read l.stable) l

      right : Side
      right = side_of (length w.delta) (read r.stable) r

      moved : HasBothOf (side_of (length v.delta) (read l.stable) l) (side_of (length w.delta) (read r.stable) r) pieces
      moved =
          subst (λ (fs : List DeltaFile). HasBoth l.range r.range (read l.stable) (read r.stable) fs (map file_in (taken_told (length w.delta) r)) pieces) (sym (taken_said v l fits_l is_l.tagged))
          (subst (λ (fs : List DeltaFile). HasBoth l.range r.range (read l.stable) (read r.stable) (files_of v.delta) fs pieces) (sym (taken_said w r fits_r is_r.tagged))
          (subst (λ (part : Option (StableFile G)). HasBoth l.range r.range (read part) (read r.stable) (files_of v.delta) (files_of w.delta) pieces) (sym fits_l.stable)
          (subst (λ (part : Option (StableFile G)). HasBoth l.range r.range (read v.stable) (read part) (files_of v.delta) (files_of w.delta) pieces) (sym fits_r.stable)
          (subst (λ (range : HandleRange). HasBoth range r.range (read v.stable) (read w.stable) (files_of v.delta) (files_of w.delta) pieces) (sym fits_l.range)
          (subst (λ (range : HandleRange). HasBoth v.range range (read v.stable) (read w.stable) (files_of v.delta) (files_of w.delta) pieces) (sym fits_r.range) has)))))

      one_same : {a b : Piece} → ◌≡◌ {A = List Piece} (a ∷ []) (b ∷ []) → a ≡ b
      one_same e = cc e

      new : tell (joined_slot (first + 1) x.range (part_of first file) (length v.delta) l (length w.delta) r) ≡ both_of (side_of (length v.delta) (read l.stable) l) (side_of (length w.delta) (read r.stable) r) moved.piece
      new =
          ap (λ (vs : List Version). tagged_of x.range vs (all_told (joined_slot (first + 1) x.range (part_of first file) (length v.delta) l (length w.delta) r))) (ap read (part_is first file) ∙ subst (IsOne (λ (piece : Piece). read file ≡ piece.versions)) are have)
          ∙ joined_says (first + 1) (part_of first file) (length v.delta) (length w.delta) x (read l.stable) (read r.stable) l r is_l.tagged is_r.tagged
          ∙ ap (both_of (side_of (length v.delta) (read l.stable) l) (side_of (length w.delta) (read r.stable) r)) (one_same (sym are ∙ moved.only))

  pub compact_keeps : (from to number : ℕ) (v : SegmentView G) (s : Slotted G) (versions : List Version) → Fits v s → IsSlot committed last s → IsFirstRun v.delta from to → versions ≡ run_of v.delta from to → Keeps P (tell s ∷ []) (tell (compacted_slot from to (Tiny number versions) s) ∷ [])
  compact_keeps from to number v s versions fits is run are = record {
    keeps = λ before after good.
        subst (λ (t : TaggedSegment). P (before ++ (t ∷ after))) (sym new)
        (laws.compact before after s.range (read s.stable) (all_told s) s.files from to named_run good);
  }
    where
      many : suc from < to
      many = run.many

      within : to ≤ length s.files
      within = (run_tinies s.files v.delta fits.rest from to fits.files run).1

      tinies : AllByRecursion (λ (f : ColumnFile). is_tiny f ≡ true) (slice_range s.files from to)
      tinies = (run_tinies s.files v.delta fits.rest from to fits.files run).0

      named : to ≤ s.named
      named = run_named s.files from to s.named (omega (arith, many)) within tinies is.behind

      slice : slice_range s.files from to ≡ slice_range v.delta from to
      slice = ap (λ (fs : List ColumnFile). slice_range fs from to) fits.files ∙ same_slice v.delta fits.rest from to (omega (arith, many)) run.within

      versions_are : versions ≡ run_of s.files from to
      versions_are = are ∙ ap (flat_map block_in) (sym slice)

      whole_run : IsFirstRun s.files from to
      whole_run = subst (λ (fs : List ColumnFile). IsFirstRun fs from to) (sym fits.files) (run_of_front v.delta fits.rest from to run fits.no_tiny)

      named_run : IsNamedRun committed 0 s.files from to (all_told s)
      named_run = record { are = all_said s is.tagged; run = whole_run; by = run_by committed from to s named; one_by = omega arith }

      new : tell (compacted_slot from to (Tiny number versions) s) ≡ tagged_of s.range (read s.stable) (with_run 0 s.files from to (all_told s))
      new = ap (λ (vs : List Version). tell (compacted_slot from to (Tiny number vs) s)) versions_are ∙ compacted_says from to number (read s.stable) s is.tagged (omega (arith, many)) named
