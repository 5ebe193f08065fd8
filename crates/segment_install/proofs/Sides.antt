-- What a view took of a slot, and what came since, with their counts.
use Rattle.std.proofs.Common.{◌≡◌, ◌⊎◌, ◌∙◌, inl, inr, refl, sym, ap, subst, ℕ, zero, suc, ◌-◌, ◌<◌, ◌≤◌, List, [], ◌∷◌, ◌++◌, length, map, take, drop, replicate, arith}
use Rattle.std.specs.List.{AllByRecursion}
use Rattle.std.proofs.Math.Seq.{take-append_seam}
use Rattle.std.proofs.lemmas.List.{length-append, length-replicate}
use Rattle.column_file.specs.declared.file.ColumnFile.{ColumnFile}
use Rattle.delta_layer.specs.Files.{file_of, files_of}
use Rattle.delta_layer.specs.declared.view.SegmentView.{SegmentView}
use Rattle.good_replica.specs.Trail.{DeltaFile}
use Rattle.prefix_laws.specs.Tagged.{Tagged, file_in}
use Rattle.prefix_laws.specs.Views.{AreBy, IsTakenAt}
use Rattle.prefix_laws.proofs.Counts.{middle, middle_by, middle_high, middle_later, middle_low}
use Rattle.segment_list.specs.Order.{IsSlot}
use Rattle.segment_list.specs.Slots.{Slotted, IsTagged, tagged, tags_of}
use Rattle.segment_install.specs.Slots.{Fits}
use Rattle.segment_install.specs.Told.{all_told, rest_told, taken_told}
use Rattle.segment_install.proofs.Orders.{all_drop, all_imply}
use Rattle.segment_install.proofs.Tags.{drop_tags, tagged_drop, tagged_take}

-- ---- tags

tagged_all : (P : ℕ → Type 0) (tags : List ℕ) (files : List ColumnFile) → AllByRecursion P tags → AllByRecursion (λ (f : Tagged). P f.tag) (tagged tags files)
tagged_all P [] files all = tt
tagged_all P (t ∷ ts) [] all = tt
tagged_all P (t ∷ ts) (f ∷ fs) all = (all.0, tagged_all P ts fs all.1)

noughts_all : (P : ℕ → Type 0) → P 0 → (m : ℕ) (ts : List ℕ) → AllByRecursion P ts → AllByRecursion P (replicate m 0 ++ ts)
noughts_all P none zero ts all = all
noughts_all P none (suc m) ts all = (none, noughts_all P none m ts all)

taken_all : (P : ℕ → Type 0) → P 0 → (n m : ℕ) (ts : List ℕ) → AllByRecursion P (take (n - m) ts) → AllByRecursion P (take n (replicate m 0 ++ ts))
taken_all P none zero m ts all = tt
taken_all P none (suc n) zero ts all = let same : suc n - 0 ≡ suc n = omega arith in subst (λ (k : ℕ). AllByRecursion P (take k ts)) same all
taken_all P none (suc n) (suc m) ts all = let same : suc n - suc m ≡ n - m = omega arith in (none, taken_all P none n m ts (subst (λ (k : ℕ). AllByRecursion P (take k ts)) same all))

both_all : {X : Type 0} (P Q : X → Type 0) (xs : List X) → AllByRecursion P xs → AllByRecursion Q xs → AllByRecursion (λ (x : X). P x × Q x) xs
both_all P Q [] a b = tt
both_all P Q (x ∷ xs) a b = ((a.0, b.0), both_all P Q xs a.1 b.1)

all_take_imply : {X : Type 0} (P Q : X → Type 0) → ((x : X) → P x → Q x) → (k : ℕ) (xs : List X) → AllByRecursion P xs → AllByRecursion Q (take k xs)
all_take_imply P Q f zero xs all = tt
all_take_imply P Q f (suc k) [] all = tt
all_take_imply P Q f (suc k) (x ∷ xs) all = (f x all.0, all_take_imply P Q f k xs all.1)

-- ---- files

said : (tags : List ℕ) (files : List ColumnFile) → length files ≡ length tags → map file_in (tagged tags files) ≡ files_of files
said [] [] e = refl
said [] (f ∷ fs) e = absurd (omega (arith, e))
said (t ∷ ts) [] e = absurd (omega (arith, e))
said (t ∷ ts) (f ∷ fs) e = ap (λ (gs : List DeltaFile). file_of f ∷ gs) (said ts fs (omega (arith, e)))

pub take_map : {X Y : Type 0} (f : X → Y) (n : ℕ) (xs : List X) → take n (map f xs) ≡ map f (take n xs)
take_map f zero xs = refl
take_map f (suc n) [] = refl
take_map {Y = Y} f (suc n) (x ∷ xs) = ap (λ (ys : List Y). f x ∷ ys) (take_map f n xs)

module _ {G : Type 0} where
  pub all_said : (s : Slotted G) → IsTagged s → map file_in (all_told s) ≡ files_of s.files
  all_said s e = said (tags_of s) s.files (omega (arith, e, length-append (replicate s.named 0) s.tags, length-replicate {A = ℕ} s.named 0))

  pub front_is : (v : SegmentView G) (s : Slotted G) → Fits v s → take (length v.delta) s.files ≡ v.delta
  front_is v s fits = ap (take (length v.delta)) fits.files ∙ take-append_seam v.delta fits.rest

  pub taken_said : (v : SegmentView G) (s : Slotted G) → Fits v s → IsTagged s → map file_in (taken_told (length v.delta) s) ≡ files_of v.delta
  taken_said v s fits e =
      sym (take_map file_in (length v.delta) (all_told s))
      ∙ ap (take (length v.delta)) (all_said s e)
      ∙ take_map file_of (length v.delta) s.files
      ∙ ap files_of (front_is v s fits)

  module _ (committed last : ℕ) (v : SegmentView G) (s : Slotted G) (fits : Fits v s) (is : IsSlot committed last s) where
    pub taken_known : AreBy last (taken_told (length v.delta) s)
    taken_known =
        subst (AreBy last) (sym (tagged_take (length v.delta) (tags_of s) s.files))
        (tagged_all (λ (t : ℕ). t ≤ last) (take (length v.delta) (tags_of s)) (take (length v.delta) s.files)
        (taken_all (λ (t : ℕ). t ≤ last) (omega arith) (length v.delta) s.named s.tags (front (length v.delta - s.named) s.tags is.tags)))
      where
        front : (k : ℕ) (ts : List ℕ) → AllByRecursion (λ (t : ℕ). (committed < t) × (t ≤ last)) ts → AllByRecursion (λ (t : ℕ). t ≤ last) (take k ts)
        front k ts all = all_take_imply (λ (t : ℕ). (committed < t) × (t ≤ last)) (λ (t : ℕ). t ≤ last) (λ t h. h.1) k ts all

    pub taken_by : AreBy fits.count (taken_told (length v.delta) s)
    taken_by =
        subst (AreBy fits.count) (sym (tagged_take (length v.delta) (tags_of s) s.files))
        (tagged_all (λ (t : ℕ). t ≤ fits.count) (take (length v.delta) (tags_of s)) (take (length v.delta) s.files)
        (taken_all (λ (t : ℕ). t ≤ fits.count) (omega arith) (length v.delta) s.named s.tags fits.by))

    pub rest_later : AllByRecursion (λ (f : Tagged). (f.tag ≤ committed) ⊎ ((committed < f.tag) × (fits.count < f.tag))) (rest_told (length v.delta) s)
    rest_later =
        subst (AllByRecursion (λ (f : Tagged). (f.tag ≤ committed) ⊎ ((committed < f.tag) × (fits.count < f.tag)))) (sym (tagged_drop (length v.delta) (tags_of s) s.files))
        (tagged_all (λ (t : ℕ). (t ≤ committed) ⊎ ((committed < t) × (fits.count < t))) (drop (length v.delta) (tags_of s)) (drop (length v.delta) s.files)
        (subst (AllByRecursion (λ (t : ℕ). (t ≤ committed) ⊎ ((committed < t) × (fits.count < t)))) (sym (drop_tags (length v.delta) s.named s.tags))
        (noughts_all (λ (t : ℕ). (t ≤ committed) ⊎ ((committed < t) × (fits.count < t))) (inl (omega arith)) (s.named - length v.delta) (drop (length v.delta - s.named) s.tags)
        (all_imply (λ (t : ℕ). ((committed < t) × (t ≤ last)) × (fits.count < t)) (λ (t : ℕ). (t ≤ committed) ⊎ ((committed < t) × (fits.count < t))) (λ t h. inr (h.0.0, h.1)) (drop (length v.delta - s.named) s.tags)
        (both_all (λ (t : ℕ). (committed < t) × (t ≤ last)) (λ (t : ℕ). fits.count < t) (drop (length v.delta - s.named) s.tags) (all_drop (λ (t : ℕ). (committed < t) × (t ≤ last)) (length v.delta - s.named) s.tags is.tags) fits.later)))))

    pub taken_at : committed ≤ last → IsTakenAt committed last (middle committed last fits.count) (taken_told (length v.delta) s) (rest_told (length v.delta) s)
    taken_at order = record {
      begins = middle_low committed last fits.count order;
      ends = middle_high committed last fits.count order;
      by = middle_by committed last fits.count order (taken_told (length v.delta) s) taken_by taken_known;
      later = middle_later committed last fits.count order (rest_told (length v.delta) s) rest_later;
    }

  -- files among those that are named have tag 0
  pub run_by : (committed from to : ℕ) (s : Slotted G) → to ≤ s.named → AreBy committed (take (to - from) (drop from (all_told s)))
  run_by committed from to s named =
      subst (AreBy committed) (sym (ap (take (to - from)) (tagged_drop from (tags_of s) s.files) ∙ tagged_take (to - from) (drop from (tags_of s)) (drop from s.files)))
      (tagged_all (λ (t : ℕ). t ≤ committed) (take (to - from) (drop from (tags_of s))) (take (to - from) (drop from s.files))
      (subst (λ (ts : List ℕ). AllByRecursion (λ (t : ℕ). t ≤ committed) (take (to - from) ts)) (sym (drop_tags from s.named s.tags))
      (taken_all (λ (t : ℕ). t ≤ committed) (omega arith) (to - from) (s.named - from) (drop (from - s.named) s.tags)
      (let none : to - from - (s.named - from) ≡ 0 = omega (arith, named) in subst (λ (k : ℕ). AllByRecursion (λ (t : ℕ). t ≤ committed) (take k (drop (from - s.named) s.tags))) (sym none) tt))))
