-- Files with their tags, in parts.
use Rattle.std.proofs.Common.{◌≡◌, ◌∙◌, refl, sym, ap, subst, ℕ, zero, suc, ◌+◌, ◌-◌, ◌≤◌, true, false, cond, List, [], ◌∷◌, ◌++◌, length, map, take, drop, replicate, arith}
use Rattle.std.specs.Prelude.{filter}
use Rattle.std.proofs.lemmas.List.{map-append}
use Rattle.std.proofs.lemmas.List.Elements.{filter-append}
use Rattle.column_file.specs.declared.file.ColumnFile.{ColumnFile}
use Rattle.delta_layer.specs.Files.{file_of}
use Rattle.flash_types.specs.declared.range.HandleRange.{HandleRange}
use Rattle.good_replica.specs.Trail.{DeltaFile}
use Rattle.prefix_laws.specs.Clipped.{clip, clip_one, says, speaks}
use Rattle.prefix_laws.specs.Tagged.{Tagged}
use Rattle.segment_list.specs.Slots.{clip_file, clip_files, tagged}
use Rattle.segment_list.proofs.Telling.{clip_file_says}

-- files that are named: the tag of each is 0
unfoldable pub named_told : List ColumnFile → List Tagged
named_told files = tagged (replicate (length files) 0) files

pub noughts : (m n : ℕ) → ◌≡◌ {A = List ℕ} (replicate m 0 ++ replicate n 0) (replicate (m + n) 0)
noughts zero n = let same : n ≡ 0 + n = omega arith in ap (λ (k : ℕ). replicate {A = ℕ} k 0) same
noughts (suc m) n = let same : suc (m + n) ≡ suc m + n = omega arith in ap (λ (r : List ℕ). 0 ∷ r) (noughts m n) ∙ ap (λ (k : ℕ). replicate {A = ℕ} k 0) same

pub drop_tags : (n named : ℕ) (tags : List ℕ) → drop n (replicate named 0 ++ tags) ≡ replicate (named - n) 0 ++ drop (n - named) tags
drop_tags zero named tags =
    let a : named ≡ named - 0 = omega arith in
    let b : 0 ≡ 0 - named = omega arith in
    ap (λ (k : ℕ). replicate k 0 ++ tags) a ∙ ap (λ (k : ℕ). replicate (named - 0) 0 ++ drop k tags) b
drop_tags (suc n) zero tags =
    let a : 0 ≡ 0 - suc n = omega arith in
    let b : suc n ≡ suc n - 0 = omega arith in
    ap (λ (k : ℕ). drop k tags) b ∙ ap (λ (k : ℕ). replicate k 0 ++ drop (suc n - 0) tags) a
drop_tags (suc n) (suc named) tags =
    let a : named - n ≡ suc named - suc n = omega arith in
    let b : n - named ≡ suc n - suc named = omega arith in
    drop_tags n named tags ∙ ap (λ (k : ℕ). replicate k 0 ++ drop (n - named) tags) a ∙ ap (λ (k : ℕ). replicate (suc named - suc n) 0 ++ drop k tags) b

pub take_tags : (n named : ℕ) (tags : List ℕ) → n ≤ named → take n (replicate named 0 ++ tags) ≡ replicate n 0
take_tags zero named tags le = refl
take_tags (suc n) zero tags le = absurd (omega (arith, le))
take_tags (suc n) (suc named) tags le = ap (λ (r : List ℕ). 0 ∷ r) (take_tags n named tags (omega (arith, le)))

no_tags : (n : ℕ) (files : List ColumnFile) → tagged (drop n []) files ≡ []
no_tags zero files = refl
no_tags (suc n) files = refl

no_files : (tags : List ℕ) → tagged tags [] ≡ []
no_files [] = refl
no_files (t ∷ ts) = refl

drop_none : {X : Type 0} (n : ℕ) → ◌≡◌ {A = List X} (drop n []) []
drop_none zero = refl
drop_none (suc n) = refl

pub tagged_drop : (n : ℕ) (tags : List ℕ) (files : List ColumnFile) → drop n (tagged tags files) ≡ tagged (drop n tags) (drop n files)
tagged_drop n [] files = drop_none n ∙ sym (no_tags n (drop n files))
tagged_drop n (t ∷ ts) [] = drop_none n ∙ sym (no_files (drop n (t ∷ ts))) ∙ ap (tagged (drop n (t ∷ ts))) (sym (drop_none n))
tagged_drop zero (t ∷ ts) (f ∷ fs) = refl
tagged_drop (suc n) (t ∷ ts) (f ∷ fs) = tagged_drop n ts fs

take_none : {X : Type 0} (n : ℕ) → ◌≡◌ {A = List X} (take n []) []
take_none zero = refl
take_none (suc n) = refl

pub tagged_take : (n : ℕ) (tags : List ℕ) (files : List ColumnFile) → take n (tagged tags files) ≡ tagged (take n tags) (take n files)
tagged_take n [] files = take_none n ∙ ap (λ (ts : List ℕ). tagged ts (take n files)) (sym (take_none n))
tagged_take n (t ∷ ts) [] = take_none n ∙ sym (no_files (take n (t ∷ ts))) ∙ ap (tagged (take n (t ∷ ts))) (sym (take_none n))
tagged_take zero (t ∷ ts) (f ∷ fs) = refl
tagged_take (suc n) (t ∷ ts) (f ∷ fs) = ap (λ (r : List Tagged). record { tag = t; file = file_of f } ∷ r) (tagged_take n ts fs)

pub clip_both : (range : HandleRange) (xs ys : List Tagged) → clip range (xs ++ ys) ≡ clip range xs ++ clip range ys
clip_both range xs ys = ap (filter says) (map-append (clip_one range) xs ys) ∙ filter-append says (map (clip_one range) xs) (map (clip_one range) ys)

pub named_both : (some others : List ColumnFile) → named_told (some ++ others) ≡ named_told some ++ named_told others
unfolding named_told
named_both [] others = refl
named_both (f ∷ fs) others = ap (λ (r : List Tagged). record { tag = 0; file = file_of f } ∷ r) (named_both fs others)

-- clipping files that are named is clipping of what they say
pub named_clip : (range : HandleRange) (files : List ColumnFile) → named_told (clip_files range files) ≡ clip range (named_told files)
unfolding named_told
named_clip range [] = refl
named_clip range (f ∷ fs) =
    subst (λ (said : DeltaFile). named_told (cond (speaks (file_of (clip_file range f))) (clip_file range f ∷ clip_files range fs) (clip_files range fs)) ≡ cond (speaks said) (record { tag = 0; file = said } ∷ clip range (named_told fs)) (clip range (named_told fs)))
    (clip_file_says range f)
    (elim (speaks (file_of (clip_file range f))) as (λ v. named_told (cond v (clip_file range f ∷ clip_files range fs) (clip_files range fs)) ≡ cond v (record { tag = 0; file = file_of (clip_file range f) } ∷ clip range (named_told fs)) (clip range (named_told fs)))
    [ true ↦ ap (λ (r : List Tagged). record { tag = 0; file = file_of (clip_file range f) } ∷ r) (named_clip range fs) | false ↦ named_clip range fs ])
