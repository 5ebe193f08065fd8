-- Going over versions that rise.
use Rattle.std.proofs.Common.{◌≡◌, ℕ, suc, ◌+◌, ◌-◌, ◌≤◌, ◌<◌, Bool, true, false, List, [], ◌∷◌, length, take, drop, slice_range, get_or, slice_get, Some, sym, ap, ◌∙◌, arith}
use Rattle.std.specs.Prelude.{◌&&◌}
use Rattle.std.proofs.lemmas.List.{drop_all, drop_more}
use Rattle.std.proofs.lemmas.Option.{slice_get-get_or}
use Rattle.column_block.specs.declared.cell.Version.{Version}
use Rattle.column_block.specs.declared.column.MinMax.{MinMax}
use Rattle.column_block.specs.declared.column.MinMax.TheVariants.{Empty}
use Rattle.pack_codec.specs.Spelling.{cell_of}
use Rattle.column_block.specs.Order.{is_before, rise_after, rise}
use Rattle.stable_file.specs.Ranges.{with_cell, range_with, same_range, are_ranges}

some_is : (x y : Version) → Some x ≡ Some y → x ≡ y
some_is x y h = cc

pub item_first : (xs : List Version) (i : ℕ) (v : Version) → i < length xs → slice_get xs i ≡ Some v → drop i xs ≡ v ∷ drop (i + 1) xs
item_first xs i v lt at = drop_more xs i v lt ∙ ap (λ (x : Version). x ∷ drop (i + 1) xs) (some_is (get_or xs i v) v (sym (slice_get-get_or xs i v lt) ∙ at))

two_first : (xs : List Version) (i : ℕ) (v w : Version) → 1 ≤ i → i < length xs → slice_get xs (i - 1) ≡ Some v → slice_get xs i ≡ Some w → drop (i - 1) xs ≡ v ∷ w ∷ drop (i + 1) xs
two_first xs i v w least lt at next =
    let k : i - 1 + 1 ≡ i = omega arith in
    item_first xs (i - 1) v (omega arith) at ∙ ap (λ n. v ∷ drop n xs) k ∙ ap (λ (vs : List Version). v ∷ vs) (item_first xs i w lt next)

pub rises_on : (xs : List Version) (i : ℕ) (v w : Version) (total : Bool) → 1 ≤ i → i < length xs → slice_get xs (i - 1) ≡ Some v → slice_get xs i ≡ Some w → is_before v w ≡ true → rise (drop (i - 1) xs) ≡ total → rise (drop (i + 1 - 1) xs) ≡ total
rises_on xs i v w total least lt at next is so_far =
    let k : i + 1 - 1 ≡ i = omega arith in
    let one : rise (drop (i - 1) xs) ≡ rise_after w (drop (i + 1) xs) = ap rise (two_first xs i v w least lt at next) ∙ ap (λ b. b && rise_after w (drop (i + 1) xs)) is in
    ap (λ n. rise (drop n xs)) k ∙ ap rise (item_first xs i w lt next) ∙ sym one ∙ so_far

pub falls : (xs : List Version) (i : ℕ) (v w : Version) (total : Bool) → 1 ≤ i → i < length xs → slice_get xs (i - 1) ≡ Some v → slice_get xs i ≡ Some w → is_before v w ≡ false → rise (drop (i - 1) xs) ≡ total → false ≡ total
falls xs i v w total least lt at next is so_far =
    let one : rise (drop (i - 1) xs) ≡ false = ap rise (two_first xs i v w least lt at next) ∙ ap (λ b. b && rise_after w (drop (i + 1) xs)) is in
    sym one ∙ so_far

pub all_rose : (xs : List Version) (i : ℕ) (total : Bool) → 1 ≤ length xs → i ≡ length xs → rise (drop (i - 1) xs) ≡ total → true ≡ total
all_rose [] i total some e so_far = absurd (omega arith)
all_rose (x ∷ xs) i total some e so_far =
    let k : i - 1 + 1 ≡ i = omega arith in
    let none : drop i (x ∷ xs) ≡ [] = drop_all i (x ∷ xs) (omega (arith, e)) in
    let last : drop (i - 1) (x ∷ xs) ≡ get_or (x ∷ xs) (i - 1) x ∷ [] = drop_more (x ∷ xs) (i - 1) x (omega (arith, e)) ∙ ap (λ n. get_or (x ∷ xs) (i - 1) x ∷ drop n (x ∷ xs)) k ∙ ap (λ (vs : List Version). get_or (x ∷ xs) (i - 1) x ∷ vs) none in
    sym (ap rise last) ∙ so_far

-- ---- ranges

range_first : (xs : List Version) (i to : ℕ) (v : Version) → i < to → i < length xs → slice_get xs i ≡ Some v → slice_range xs i to ≡ v ∷ slice_range xs (i + 1) to
range_first xs i to v le lt at =
    let k : to - i ≡ suc (to - (i + 1)) = omega arith in
    ap (λ n. take n (drop i xs)) k ∙ ap (take (suc (to - (i + 1)))) (item_first xs i v lt at)

pub range_more : (column : ℕ) (xs : List Version) (i to : ℕ) (v : Version) (range wider total : MinMax) → i < to → i < length xs → slice_get xs i ≡ Some v → wider ≡ with_cell range (cell_of column v) → range_with column range (slice_range xs i to) ≡ total
    → range_with column wider (slice_range xs (i + 1) to) ≡ total
range_more column xs i to v range wider total le lt at is so_far =
    ap (λ (r : MinMax). range_with column r (slice_range xs (i + 1) to)) is ∙ sym (ap (range_with column range) (range_first xs i to v le lt at)) ∙ so_far

pub range_done : (column : ℕ) (xs : List Version) (i to : ℕ) (range total : MinMax) → to ≤ i → range_with column range (slice_range xs i to) ≡ total → range ≡ total
range_done column xs i to range total le so_far =
    let k : to - i ≡ 0 = omega arith in
    sym (ap (λ n. range_with column range (take n (drop i xs))) k) ∙ so_far

module _ (told : List MinMax) (versions : List Version) where
  by_range : (k : ℕ) (d found : MinMax) (same value : Bool) → k < length told → found ≡ range_with k Empty versions → same ≡ same_range (get_or told k d) found → same ≡ value
      → are_ranges (drop k told) k versions ≡ (value && are_ranges (drop (k + 1) told) (k + 1) versions)
  by_range k d found same value lt is tests b =
      let test : same_range (get_or told k d) (range_with k Empty versions) ≡ value = ap (same_range (get_or told k d)) (sym is) ∙ sym tests ∙ b in
      ap (λ (rs : List MinMax). are_ranges rs k versions) (drop_more told k d lt) ∙ ap (λ v. v && are_ranges (drop (k + 1) told) (k + 1) versions) test

  pub same_next : (k : ℕ) (d found : MinMax) (same total : Bool) → k < length told → found ≡ range_with k Empty versions → same ≡ same_range (get_or told k d) found → same ≡ true
      → are_ranges (drop k told) k versions ≡ total → are_ranges (drop (k + 1) told) (k + 1) versions ≡ total
  same_next k d found same total lt is tests b so_far = sym (by_range k d found same true lt is tests b) ∙ so_far

  pub other_range : (k : ℕ) (d found : MinMax) (same total : Bool) → k < length told → found ≡ range_with k Empty versions → same ≡ same_range (get_or told k d) found → same ≡ false
      → are_ranges (drop k told) k versions ≡ total → false ≡ total
  other_range k d found same total lt is tests b so_far = sym (by_range k d found same false lt is tests b) ∙ so_far

  pub ranges_done : (k : ℕ) (total : Bool) → length told ≤ k → are_ranges (drop k told) k versions ≡ total → true ≡ total
  ranges_done k total le so_far = sym (ap (λ (rs : List MinMax). are_ranges rs k versions) (drop_all k told le)) ∙ so_far
