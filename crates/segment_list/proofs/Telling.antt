-- What the files of a slot say, and what they say after an entry.
use Rattle.std.proofs.Common.{◌≡◌, ◌∙◌, sym, ap, refl, subst, ℕ, ◌+◌, true, false, cond, List, [], ◌∷◌, ◌++◌, Option, Some, None, length, map, replicate, arith}
use Rattle.std.specs.Prelude.{filter}
use Rattle.std.proofs.lemmas.List.{length-append, length-replicate, append_assoc, append-nil}
use Rattle.std.proofs.lemmas.List.Elements.{filter-append}
use Rattle.column_block.specs.declared.cell.Version.{Version}
use Rattle.column_file.specs.declared.file.ColumnFile.{ColumnFile}
use Rattle.column_file.specs.declared.file.ColumnFile.TheVariants.{Mem, Tiny, DeleteRange}
use Rattle.delta_layer.specs.Files.{file_of}
use Rattle.flash_types.specs.Ranges.{common, has_any}
use Rattle.flash_types.specs.declared.range.HandleRange.{HandleRange}
use Rattle.good_replica.specs.Effect.{clipped}
use Rattle.good_replica.specs.Trail.{DeltaFile, Puts, Clears}
use Rattle.stable_file.specs.declared.file.StableFile.{StableFile}
use Rattle.std.specs.List.{AllByRecursion}
use Rattle.segment_list.specs.Laws.{told_by}
use Rattle.prefix_laws.specs.Clipped.{says, speaks, clip, clears_part, puts_part, absorb}
use Rattle.prefix_laws.specs.Tagged.{Tagged, TaggedSegment, tagged_of}
use Rattle.segment_list.specs.Slots.{Slotted, IsTagged, pushed_some, absorbed, cleared_file, added_file, block_file, kept, clip_file, clip_pair, clip_pairs, told_one, tagged, tags_of, told_of}

pub clip_file_says : (range : HandleRange) (f : ColumnFile) → file_of (clip_file range f) ≡ clipped range (file_of f)
clip_file_says range (Mem block) = refl
clip_file_says range (Tiny file block) = refl
clip_file_says range (DeleteRange other) = refl

-- clipping files with tags is clipping of what they say
pub clip_pairs_say : (range : HandleRange) (pairs : List (ℕ × ColumnFile)) → map told_one (clip_pairs range pairs) ≡ clip range (map told_one pairs)
clip_pairs_say range [] = refl
clip_pairs_say range (q ∷ qs) =
    subst (λ (f : DeltaFile). map told_one (cond (speaks (file_of (clip_file range q.1))) (clip_pair range q ∷ clip_pairs range qs) (clip_pairs range qs)) ≡ cond (speaks f) (record { tag = q.0; file = f } ∷ clip range (map told_one qs)) (clip range (map told_one qs)))
    (clip_file_says range q.1)
    (elim (speaks (file_of (clip_file range q.1))) as (λ v. map told_one (cond v (clip_pair range q ∷ clip_pairs range qs) (clip_pairs range qs)) ≡ cond v (told_one (clip_pair range q) ∷ clip range (map told_one qs)) (clip range (map told_one qs)))
    [ true ↦ ap (λ (r : List Tagged). told_one (clip_pair range q) ∷ r) (clip_pairs_say range qs) | false ↦ clip_pairs_say range qs ])

-- ---- one more file, and its tag

told_some : ℕ → Option ColumnFile → List Tagged
told_some tag None = []
told_some tag (Some f) = record { tag = tag; file = file_of f } ∷ []

tagged_more : (tags : List ℕ) (files : List ColumnFile) (t : ℕ) (f : ColumnFile) → length files ≡ length tags → tagged (tags ++ t ∷ []) (files ++ f ∷ []) ≡ tagged tags files ++ record { tag = t; file = file_of f } ∷ []
tagged_more [] [] t f e = refl
tagged_more [] (g ∷ gs) t f e = absurd (omega arith)
tagged_more (u ∷ us) [] t f e = absurd (omega arith)
tagged_more (u ∷ us) (g ∷ gs) t f e = ap (λ (r : List Tagged). record { tag = u; file = file_of g } ∷ r) (tagged_more us gs t f (omega arith))

module _ {G : Type 0} where
  pub stays_tagged : (tag : ℕ) (o : Option ColumnFile) (s : Slotted G) → IsTagged s → IsTagged (pushed_some tag o s)
  stays_tagged tag None s e = e
  stays_tagged tag (Some f) s e = omega (arith, e, length-append s.files (f ∷ []), length-append s.tags (tag ∷ []))

  all_tags : (s : Slotted G) → IsTagged s → length s.files ≡ length (tags_of s)
  all_tags s e = e ∙ ap (λ (n : ℕ). n + length s.tags) (sym (length-replicate s.named 0)) ∙ sym (length-append (replicate s.named 0) s.tags)

  some_told : (tag : ℕ) (o : Option ColumnFile) (s : Slotted G) → IsTagged s → tagged (tags_of (pushed_some tag o s)) (pushed_some tag o s).files ≡ tagged (tags_of s) s.files ++ told_some tag o
  unfolding told_some
  some_told tag None s e = sym (append-nil (tagged (tags_of s) s.files))
  some_told tag (Some f) s e = ap (λ (ts : List ℕ). tagged ts (s.files ++ f ∷ [])) (sym (append_assoc (replicate s.named 0) s.tags (tag ∷ []))) ∙ tagged_more (tags_of s) s.files tag f (all_tags s e)

  absorbed_tagged : (tag : ℕ) (clears : Option HandleRange) (adds : List Version) (s : Slotted G) → IsTagged s → IsTagged (absorbed tag clears adds s)
  absorbed_tagged tag clears adds s e = stays_tagged tag (added_file s.range adds) (pushed_some tag (cleared_file s.range clears) s) (stays_tagged tag (cleared_file s.range clears) s e)

cleared_told : (tag : ℕ) (range : HandleRange) (clears : Option HandleRange) → told_some tag (cleared_file range clears) ≡ filter says (clears_part tag range clears)
unfolding told_some
cleared_told tag range None = refl
cleared_told tag range (Some other) =
    elim (has_any (common range other)) as (λ v. told_some tag (cond v (Some (DeleteRange (common range other))) None) ≡ cond v (record { tag = tag; file = Clears (common range other) } ∷ []) []) [ true ↦ refl | false ↦ refl ]

block_told : (tag : ℕ) (versions : List Version) → told_some tag (block_file versions) ≡ filter says (record { tag = tag; file = Puts versions } ∷ [])
unfolding told_some
block_told tag [] = refl
block_told tag (v ∷ vs) = refl

module _ {G : Type 0} where
  absorbed_files : (tag : ℕ) (clears : Option HandleRange) (adds : List Version) (s : Slotted G) → IsTagged s → tagged (tags_of (absorbed tag clears adds s)) (absorbed tag clears adds s).files ≡ tagged (tags_of s) s.files ++ filter says (clears_part tag s.range clears ++ puts_part tag s.range adds)
  absorbed_files tag clears adds s e =
      some_told tag (added_file s.range adds) (pushed_some tag (cleared_file s.range clears) s) (stays_tagged tag (cleared_file s.range clears) s e)
      ∙ ap (λ (r : List Tagged). r ++ told_some tag (added_file s.range adds)) (some_told tag (cleared_file s.range clears) s e)
      ∙ append_assoc (tagged (tags_of s) s.files) (told_some tag (cleared_file s.range clears)) (told_some tag (added_file s.range adds))
      ∙ ap (λ (r : List Tagged). tagged (tags_of s) s.files ++ (r ++ told_some tag (added_file s.range adds))) (cleared_told tag s.range clears)
      ∙ ap (λ (r : List Tagged). tagged (tags_of s) s.files ++ (filter says (clears_part tag s.range clears) ++ r)) (block_told tag (kept s.range adds))
      ∙ ap (λ (r : List Tagged). tagged (tags_of s) s.files ++ r) (sym (filter-append says (clears_part tag s.range clears) (puts_part tag s.range adds)))

  range_stays : (tag : ℕ) (o : Option ColumnFile) (s : Slotted G) → (pushed_some tag o s).range ≡ s.range
  range_stays tag None s = refl
  range_stays tag (Some f) s = refl

  pub absorbed_says : (tag : ℕ) (clears : Option HandleRange) (adds : List Version) (stable : List Version) (s : Slotted G) → IsTagged s → (told_of stable (absorbed tag clears adds s) ≡ absorb tag clears adds (told_of stable s)) × IsTagged (absorbed tag clears adds s)
  absorbed_says tag clears adds stable s e = (
    ap (λ (r : HandleRange). tagged_of r stable (tagged (tags_of (absorbed tag clears adds s)) (absorbed tag clears adds s).files)) (range_stays tag (added_file s.range adds) (pushed_some tag (cleared_file s.range clears) s) ∙ range_stays tag (cleared_file s.range clears) s)
        ∙ ap (λ (fs : List Tagged). tagged_of s.range stable fs) (absorbed_files tag clears adds s e),
    absorbed_tagged tag clears adds s e,
  )

  stable_stays : (tag : ℕ) (o : Option ColumnFile) (s : Slotted G) → (pushed_some tag o s).stable ≡ s.stable
  stable_stays tag None s = refl
  stable_stays tag (Some f) s = refl

  pub absorbed_lists : (tag : ℕ) (clears : Option HandleRange) (adds : List Version) (read : Option (StableFile G) → List Version) (slots : List (Slotted G)) → AllByRecursion (λ (s : Slotted G). IsTagged s) slots → map (told_by read) (map (absorbed tag clears adds) slots) ≡ map (absorb tag clears adds) (map (told_by read) slots)
  absorbed_lists tag clears adds read [] all = refl
  absorbed_lists tag clears adds read (s ∷ ss) all =
      let same : (absorbed tag clears adds s).stable ≡ s.stable = stable_stays tag (added_file s.range adds) (pushed_some tag (cleared_file s.range clears) s) ∙ stable_stays tag (cleared_file s.range clears) s in
      let one : told_by read (absorbed tag clears adds s) ≡ absorb tag clears adds (told_by read s) =
      ap (λ (z : Option (StableFile G)). told_of (read z) (absorbed tag clears adds s)) same ∙ (absorbed_says tag clears adds (read s.stable) s all.0).0 in
      ap (λ (x : TaggedSegment). x ∷ map (told_by read) (map (absorbed tag clears adds) ss)) one
      ∙ ap (λ (xs : List TaggedSegment). absorb tag clears adds (told_by read s) ∷ xs) (absorbed_lists tag clears adds read ss all.1)
