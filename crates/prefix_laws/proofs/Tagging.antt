-- What tagged files say at a count.
use Rattle.std.proofs.Common.{◌≡◌, ◌∙◌, ◌⊎◌, inl, inr, refl, sym, ap, ℕ, ◌<◌, ◌≤◌, ℤ, Bool, true, false, true≢false, cond, Option, List, [], ◌∷◌, ◌++◌, map, filter, nat_le, None, arith}
use Rattle.std.specs.List.{AllByRecursion, cons_option}
use Rattle.std.proofs.lemmas.List.{map-append, append-nil}
use Rattle.std.proofs.lemmas.List.Elements.{filter-append, filter_map-append}
use Rattle.flash_types.specs.Ranges.{holds}
use Rattle.flash_types.specs.declared.range.HandleRange.{HandleRange}
use Rattle.good_replica.specs.Effect.{clipped}
use Rattle.good_replica.specs.Trail.{DeltaFile, Step, step_on, steps_on}
use Rattle.good_replica.proofs.Covering.{clipped_silent}
use Rattle.good_replica.proofs.Segments.{step_clipped}
use Rattle.prefix_laws.specs.Tagged.{Tagged, is_by, file_in, files_at}
use Rattle.prefix_laws.specs.Clipped.{clip, clip_one, says, speaks, SaySame, in_order}
use Rattle.prefix_laws.specs.Views.{AreBy, AreLaterOrNamed}
use Rattle.prefix_laws.proofs.Same.{silent}

pub at_both : (k : ℕ) (fs gs : List Tagged) → files_at k (fs ++ gs) ≡ files_at k fs ++ files_at k gs
at_both k fs gs = ap (map file_in) (filter-append (is_by k) fs gs) ∙ map-append file_in (filter (is_by k) fs) (filter (is_by k) gs)

pub says_both : (h : ℤ) (k : ℕ) (fs gs : List Tagged) → steps_on h (files_at k (fs ++ gs)) ≡ steps_on h (files_at k fs) ++ steps_on h (files_at k gs)
says_both h k fs gs = ap (steps_on h) (at_both k fs gs) ∙ filter_map-append (step_on h) (files_at k fs) (files_at k gs)

is_le : (a b : ℕ) → a ≤ b → nat_le a b ≡ true
is_le a b e = grind arith

is_not : (a b : ℕ) → b < a → nat_le a b ≡ false
is_not a b e = grind arith

-- all files of a view are in what is there from its count on
pub all_by : (at k : ℕ) (fs : List Tagged) → AreBy at fs → at ≤ k → files_at k fs ≡ map file_in fs
all_by at k [] by le = refl
all_by at k (f ∷ fs) by le = (let low = by.0 in (λ i. map file_in (cond (is_le f.tag k (omega (arith, low, le)) i) (f ∷ filter (is_by k) fs) (filter (is_by k) fs)))) ∙ ap (λ gs. f.file ∷ gs) (all_by at k fs by.1 le)

-- files with a later tag aren't there yet
pub none_at : (k tag : ℕ) (fs : List Tagged) → k < tag → AllByRecursion (λ (f : Tagged). f.tag ≡ tag) fs → files_at k (filter says fs) ≡ []
none_at k tag [] less all = refl
none_at k tag (f ∷ fs) less all = by (says f) (none_at k tag fs less all.1)
  where
    by : (b : Bool) → files_at k (filter says fs) ≡ [] → files_at k (cond b (f ∷ filter says fs) (filter says fs)) ≡ []
    by true rest = (let same = all.0 in (λ i. map file_in (cond (is_not f.tag k (omega (arith, less, same)) i) (f ∷ filter (is_by k) (filter says fs)) (filter (is_by k) (filter says fs))))) ∙ rest
    by false rest = rest

-- below the view's count what is there of the later files is what is named
pub later_same : (from at k : ℕ) (fs : List Tagged) → AreLaterOrNamed from at fs → from ≤ k → k ≤ at → files_at k fs ≡ files_at at fs
later_same from at k [] later low high = refl
later_same from at k (f ∷ fs) later low high =
    (λ i. map file_in (cond (same later.0 i) (f ∷ filter (is_by k) fs) (filter (is_by k) fs)))
    ∙ by (is_by at f) (later_same from at k fs later.1 low high)
  where
    same : (f.tag ≤ from) ⊎ (at < f.tag) → nat_le f.tag k ≡ nat_le f.tag at
    same (inl named) = is_le f.tag k (omega (arith, named, low)) ∙ sym (is_le f.tag at (omega (arith, named, low, high)))
    same (inr after) = is_not f.tag k (omega (arith, after, high)) ∙ sym (is_not f.tag at after)

    by : (b : Bool) → files_at k fs ≡ files_at at fs → map file_in (cond b (f ∷ filter (is_by k) fs) (filter (is_by k) fs)) ≡ map file_in (cond b (f ∷ filter (is_by at) fs) (filter (is_by at) fs))
    by true rest = ap (λ gs. f.file ∷ gs) rest
    by false rest = rest

-- ---- files that say nothing may stay or be left out
module _ (stays : Tagged → Bool) (all : (f : Tagged) → says f ≡ true → stays f ≡ true) (h : ℤ) where
  quiet : (f : Tagged) → stays f ≡ false → says f ≡ false
  quiet f out = by (says f) refl
    where
      by : (b : Bool) → says f ≡ b → b ≡ false
      by false e = refl
      by true e = absurd (true≢false (sym (all f e) ∙ out))

  pub says_stay : (k : ℕ) (fs : List Tagged) → steps_on h (files_at k (filter stays fs)) ≡ steps_on h (files_at k fs)
  says_stay k [] = refl
  says_stay k (f ∷ fs) = by (stays f) refl (is_by k f) refl (says_stay k fs)
    where
      by : (b : Bool) → stays f ≡ b → (c : Bool) → is_by k f ≡ c → steps_on h (files_at k (filter stays fs)) ≡ steps_on h (files_at k fs) → steps_on h (files_at k (cond b (f ∷ filter stays fs) (filter stays fs))) ≡ steps_on h (map file_in (cond c (f ∷ filter (is_by k) fs) (filter (is_by k) fs)))
      by true is true there rest = (λ i. steps_on h (map file_in (cond (there i) (f ∷ filter (is_by k) (filter stays fs)) (filter (is_by k) (filter stays fs))))) ∙ ap (cons_option (step_on h f.file)) rest
      by true is false there rest = (λ i. steps_on h (map file_in (cond (there i) (f ∷ filter (is_by k) (filter stays fs)) (filter (is_by k) (filter stays fs))))) ∙ rest
      by false is true there rest = rest ∙ sym (ap (λ o. cons_option o (steps_on h (files_at k fs))) (silent h f.file (quiet f is)))
      by false is false there rest = rest

pub says_kept : (h : ℤ) (k : ℕ) (fs : List Tagged) → steps_on h (files_at k (filter says fs)) ≡ steps_on h (files_at k fs)
says_kept h k fs = says_stay says (λ f e. e) h k fs

module _ (stays : DeltaFile → Bool) (all : (f : DeltaFile) → speaks f ≡ true → stays f ≡ true) (h : ℤ) where
  one_stays : (f : DeltaFile) (fs : List DeltaFile) (b c : Bool) → stays f ≡ b → speaks f ≡ c → steps_on h (filter stays fs) ≡ steps_on h fs → steps_on h (cond b (f ∷ filter stays fs) (filter stays fs)) ≡ steps_on h (f ∷ fs)
  one_stays f fs true c e k rest = ap (cons_option (step_on h f)) rest
  one_stays f fs false false e k rest = rest ∙ sym (ap (λ (o : Option Step). cons_option o (steps_on h fs)) (silent h f k))
  one_stays f fs false true e k rest = absurd (true≢false (sym (all f k) ∙ e))

  pub silent_stay : (files : List DeltaFile) → steps_on h (filter stays files) ≡ steps_on h files
  silent_stay [] = refl
  silent_stay (f ∷ fs) = one_stays f fs (stays f) (speaks f) refl refl (silent_stay fs)

-- ---- clipped
pub says_clipped : (range : HandleRange) (h : ℤ) (k : ℕ) (fs : List Tagged) → holds range h ≡ true → steps_on h (files_at k (map (clip_one range) fs)) ≡ steps_on h (files_at k fs)
says_clipped range h k [] held = refl
says_clipped range h k (f ∷ fs) held = by (is_by k f) (says_clipped range h k fs held)
  where
    by : (b : Bool) → steps_on h (files_at k (map (clip_one range) fs)) ≡ steps_on h (files_at k fs) → steps_on h (map file_in (cond b (clip_one range f ∷ filter (is_by k) (map (clip_one range) fs)) (filter (is_by k) (map (clip_one range) fs)))) ≡ steps_on h (map file_in (cond b (f ∷ filter (is_by k) fs) (filter (is_by k) fs)))
    by true rest = (λ i. cons_option (step_clipped range h f.file held i) (rest i))
    by false rest = rest

pub clip_says : (range : HandleRange) (h : ℤ) (fs : List Tagged) → holds range h ≡ true → SaySame h (clip range fs) fs
clip_says range h fs held k = says_kept h k (map (clip_one range) fs) ∙ says_clipped range h k fs held

nothing_step : (range : HandleRange) (h : ℤ) (f : DeltaFile) → holds range h ≡ false → step_on h (clipped range f) ≡ None
nothing_step range h f out = (clipped_silent range h out (f ∷ [])).0

says_nothing : (range : HandleRange) (h : ℤ) (k : ℕ) (fs : List Tagged) → holds range h ≡ false → steps_on h (files_at k (map (clip_one range) fs)) ≡ []
says_nothing range h k [] out = refl
says_nothing range h k (f ∷ fs) out = by (is_by k f) (says_nothing range h k fs out)
  where
    by : (b : Bool) → steps_on h (files_at k (map (clip_one range) fs)) ≡ [] → steps_on h (map file_in (cond b (clip_one range f ∷ filter (is_by k) (map (clip_one range) fs)) (filter (is_by k) (map (clip_one range) fs)))) ≡ []
    by true rest = (λ i. cons_option (nothing_step range h f.file out i) (rest i))
    by false rest = rest

pub clip_nothing : (range : HandleRange) (h : ℤ) (k : ℕ) (fs : List Tagged) → holds range h ≡ false → steps_on h (files_at k (clip range fs)) ≡ []
clip_nothing range h k fs out = says_kept h k (map (clip_one range) fs) ∙ says_nothing range h k fs out

-- ---- the files of a merge, in order
module _ (left right : HandleRange) (left_named right_named left_more right_more : List Tagged) (h : ℤ) where
  ordered : (k : ℕ) → steps_on h (files_at k (in_order left right left_named right_named left_more right_more)) ≡
      steps_on h (files_at k (clip left left_named)) ++ (steps_on h (files_at k (clip right right_named)) ++ (steps_on h (files_at k (clip left left_more)) ++ steps_on h (files_at k (clip right right_more))))
  ordered k =
      says_both h k (clip left left_named) (clip right right_named ++ (clip left left_more ++ clip right right_more))
      ∙ ap (λ ss. steps_on h (files_at k (clip left left_named)) ++ ss) (says_both h k (clip right right_named) (clip left left_more ++ clip right right_more)
      ∙ ap (λ ss. steps_on h (files_at k (clip right right_named)) ++ ss) (says_both h k (clip left left_more) (clip right right_more)))

  pub order_left : holds left h ≡ true → holds right h ≡ false → SaySame h (in_order left right left_named right_named left_more right_more) (left_named ++ left_more)
  order_left held out k =
      ordered k
      ∙ (λ i. clip_says left h left_named held k i ++ (clip_nothing right h k right_named out i ++ (clip_says left h left_more held k i ++ clip_nothing right h k right_more out i)))
      ∙ ap (λ ss. steps_on h (files_at k left_named) ++ ss) (append-nil (steps_on h (files_at k left_more)))
      ∙ sym (says_both h k left_named left_more)

  pub order_right : holds right h ≡ true → holds left h ≡ false → SaySame h (in_order left right left_named right_named left_more right_more) (right_named ++ right_more)
  order_right held out k =
      ordered k
      ∙ (λ i. clip_nothing left h k left_named out i ++ (clip_says right h right_named held k i ++ (clip_nothing left h k left_more out i ++ clip_says right h right_more held k i)))
      ∙ sym (says_both h k right_named right_more)
