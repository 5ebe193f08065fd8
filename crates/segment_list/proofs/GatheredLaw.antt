-- What gathered files say.
use Rattle.std.proofs.Common.{◌≡◌, ◌∙◌, refl, ap, ℕ, List, [], ◌∷◌, ◌++◌, length, map, arith}
use Rattle.std.proofs.lemmas.List.{length-append, length-map}
use Rattle.column_file.specs.declared.file.ColumnFile.{ColumnFile}
use Rattle.delta_layer.specs.Files.{file_of}
use Rattle.flash_types.specs.declared.range.HandleRange.{HandleRange}
use Rattle.prefix_laws.specs.Clipped.{clip}
use Rattle.prefix_laws.specs.Tagged.{Tagged}
use Rattle.segment_list.specs.Slots.{tagged, told_one, tag_in, file_in, clip_pairs, pairs_of, Gathered, with_pairs}
use Rattle.segment_list.proofs.Telling.{clip_pairs_say}

pub told_pairs : (ts : List ℕ) (fs : List ColumnFile) → map told_one (pairs_of ts fs) ≡ tagged ts fs
told_pairs [] fs = refl
told_pairs (t ∷ ts) [] = refl
told_pairs (t ∷ ts) (f ∷ fs) = ap (λ (r : List Tagged). record { tag = t; file = file_of f } ∷ r) (told_pairs ts fs)

pub pairs_told : (ps : List (ℕ × ColumnFile)) → tagged (map tag_in ps) (map file_in ps) ≡ map told_one ps
pairs_told [] = refl
pairs_told (p ∷ ps) = ap (λ (r : List Tagged). told_one p ∷ r) (pairs_told ps)

pub both_told : (ts us : List ℕ) (fs gs : List ColumnFile) → length fs ≡ length ts → tagged (ts ++ us) (fs ++ gs) ≡ tagged ts fs ++ tagged us gs
both_told [] us [] gs e = refl
both_told [] us (f ∷ fs) gs e = absurd (omega arith)
both_told (t ∷ ts) us [] gs e = absurd (omega arith)
both_told (t ∷ ts) us (f ∷ fs) gs e = ap (λ (r : List Tagged). record { tag = t; file = file_of f } ∷ r) (both_told ts us fs gs (omega arith))

pub gathered_say : (range : HandleRange) (r : Gathered) (tags : List ℕ) (files : List ColumnFile) → length r.files ≡ length r.tags → (tagged (with_pairs r (clip_pairs range (pairs_of tags files))).tags (with_pairs r (clip_pairs range (pairs_of tags files))).files ≡ tagged r.tags r.files ++ clip range (tagged tags files)) × (length (with_pairs r (clip_pairs range (pairs_of tags files))).files ≡ length (with_pairs r (clip_pairs range (pairs_of tags files))).tags)
gathered_say range r tags files e =
    let ps : List (ℕ × ColumnFile) = clip_pairs range (pairs_of tags files) in (
      both_told r.tags (map tag_in ps) r.files (map file_in ps) e
          ∙ ap (λ (x : List Tagged). tagged r.tags r.files ++ x) (pairs_told ps ∙ clip_pairs_say range (pairs_of tags files) ∙ ap (clip range) (told_pairs tags files)),
      omega (arith, e, length-append r.files (map file_in ps), length-append r.tags (map tag_in ps), length-map ps file_in, length-map ps tag_in),
    )
