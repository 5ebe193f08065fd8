-- The places of the versions that are shown, as they are gathered.
use Rattle.std.proofs.Common.{◌≡◌, ◌∙◌, refl, sym, ap, ℕ, zero, suc, ◌+◌, ◌<◌, Bool, true, false, cond, ◌&&◌, List, [], ◌∷◌, ◌++◌, Some, length, map, take, slice_get, arith}
use Rattle.std.specs.Prelude.{filter}
use Rattle.std.specs.List.{slice_index}
use Rattle.std.proofs.lemmas.List.{map-append}
use Rattle.std.proofs.lemmas.List.Elements.{filter-append, filter_more}
use Rattle.std.proofs.lemmas.Option.{get_or_from_slice_get, slice_get_within}
use Rattle.column_block.specs.declared.cell.Version.{Version}
use Rattle.flash_types.specs.declared.range.HandleRange.{HandleRange}
use Rattle.flash_types.specs.declared.refusal.Cut.{Cut}
use Rattle.learner_read.specs.Rows.{is_asked, is_shown, rows_within}

module _ (ts : ℕ) (clip : HandleRange) (cuts : List Cut) (vs : List Version) where
  -- what is shown of the first n versions
  abbrev pub first_rows : ℕ → List Version
  first_rows n = rows_within clip cuts (filter (is_shown ts vs) (take n vs))

  shown_more : (i : ℕ) (v : Version) → slice_get vs i ≡ Some v → filter (is_shown ts vs) (take (i + 1) vs) ≡ filter (is_shown ts vs) (take i vs) ++ cond (is_shown ts vs v) (v ∷ []) []
  shown_more i v here = filter_more (is_shown ts vs) vs i v (slice_get_within vs i v here) ∙ ap (λ x. filter (is_shown ts vs) (take i vs) ++ cond (is_shown ts vs x) (x ∷ []) []) (get_or_from_slice_get vs i v v here)

  rows_more : (i : ℕ) (v : Version) → slice_get vs i ≡ Some v → first_rows (i + 1) ≡ first_rows i ++ rows_within clip cuts (cond (is_shown ts vs v) (v ∷ []) [])
  rows_more i v here = ap (rows_within clip cuts) (shown_more i v here) ∙ filter-append (λ (v : Version). is_asked clip cuts v.handle) (filter (is_shown ts vs) (take i vs)) (cond (is_shown ts vs v) (v ∷ []) [])

  pub taken : (i : ℕ) (v : Version) (places : List ℕ) → slice_get vs i ≡ Some v → is_shown ts vs v ≡ true → is_asked clip cuts v.handle ≡ true → map (slice_get vs) places ≡ map Some (first_rows i) → map (slice_get vs) (places ++ i ∷ []) ≡ map Some (first_rows (i + 1))
  taken i v places here shown asked so_far =
      let one : rows_within clip cuts (cond (is_shown ts vs v) (v ∷ []) []) ≡ v ∷ [] = ap (λ b. rows_within clip cuts (cond b (v ∷ []) [])) shown ∙ ap (λ b. cond b (v ∷ []) []) asked in
      map-append (slice_get vs) places (i ∷ []) ∙ (λ k. so_far k ++ here k ∷ []) ∙ sym (map-append Some (first_rows i) (v ∷ [])) ∙ ap (map Some) (sym (rows_more i v here ∙ ap (λ x. first_rows i ++ x) one))

  pub left_out : (i : ℕ) (v : Version) (places : List ℕ) → slice_get vs i ≡ Some v → (is_shown ts vs v && is_asked clip cuts v.handle) ≡ false → map (slice_get vs) places ≡ map Some (first_rows i) → map (slice_get vs) places ≡ map Some (first_rows (i + 1))
  left_out i v places here out so_far = so_far ∙ ap (map Some) (sym (rows_more i v here ∙ ap (λ x. first_rows i ++ x) (none (is_shown ts vs v) (is_asked clip cuts v.handle) refl out) ∙ nil (first_rows i)))
    where
      none : (a b : Bool) → is_asked clip cuts v.handle ≡ b → (a && b) ≡ false → rows_within clip cuts (cond a (v ∷ []) []) ≡ []
      none false b is e = refl
      none true false is e = ap (λ x. cond x (v ∷ []) []) is
      none true true is e = cc e

      nil : (xs : List Version) → xs ++ [] ≡ xs
      nil [] = refl
      nil (x ∷ xs) = ap (λ ys. x ∷ ys) (nil xs)

pub are_within : {X : Type 0} (xs : List X) (places : List ℕ) (rows : List X) → map (slice_get xs) places ≡ map Some rows → (k : ℕ) → k < length places → slice_index places k < length xs
are_within xs [] rows e k less = absurd (omega (arith, less))
are_within xs (p ∷ ps) [] e k less = cc e
are_within xs (p ∷ ps) (r ∷ rs) e zero less = slice_get_within xs p r (cc e)
are_within xs (p ∷ ps) (r ∷ rs) e (suc k) less = are_within xs ps rs (cc e) k (omega (arith, less))

pub same_items : {X : Type 0} (xs ys : List X) → map Some xs ≡ map Some ys → xs ≡ ys
same_items [] [] e = refl
same_items [] (y ∷ ys) e = cc e
same_items (x ∷ xs) [] e = cc e
same_items (x ∷ xs) (y ∷ ys) e = (let head : x ≡ y = cc e in let tail : xs ≡ ys = same_items xs ys (cc e) in (λ i. head i ∷ tail i))

-- the version at a place where a test gave an answer
pub row_at : (p : Version → Bool) (vs : List Version) (i : ℕ) (b : Bool) → slice_get (map p vs) i ≡ Some b → (v : Version) × (slice_get vs i ≡ Some v) × (p v ≡ b)
row_at p [] i b e = cc e
row_at p (v ∷ vs) zero b e = (v, refl, cc e)
row_at p (v ∷ vs) (suc i) b e = row_at p vs i b e
