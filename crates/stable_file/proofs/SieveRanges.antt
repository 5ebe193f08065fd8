-- What the range of a column's numbers tells of each version of a pack.
use Rattle.std.proofs.Common.{◌≡◌, ◌∙◌, refl, sym, ap, subst, ℕ, ℤ, zero, suc, pos, ◌+◌, Bool, true, false, true≢false, cond, ◌&&◌, List, [], ◌∷◌, length, get_or, Option, Some, None, Ok, arith}
use Rattle.std.specs.Prelude.{int_lt, int_le, slice_get, ◌==◌}
use Rattle.std.specs.List.{AllByRecursion}
use Rattle.std.specs.Ordering.{int_eq}
use Rattle.std.proofs.lemmas.Int.{ints}
use Rattle.column_block.specs.declared.cell.Cell.{Cell}
use Rattle.column_block.specs.declared.cell.Cell.TheVariants as cell
use Rattle.column_block.specs.declared.cell.Version.{Version}
use Rattle.column_block.specs.declared.column.Column.{Column}
use Rattle.column_block.specs.declared.column.MinMax.{MinMax}
use Rattle.column_block.specs.declared.column.MinMax.TheVariants.{Empty, Of}
use Rattle.column_block.specs.Numbers.{number_of, number_in, in_range, is_within_range}
use Rattle.pack_codec.specs.declared.fault.FormError.TheVariants.{Damaged}
use Rattle.pack_codec.specs.Spelling.{cell_of}
use Rattle.pack_codec.proofs.Binds.{bind_ok, if_ok}
use Rattle.stable_file.specs.declared.pack.Pack.{Pack}
use Rattle.stable_file.specs.Packs.{versions_in}
use Rattle.stable_file.specs.Ranges.{widened, with_cell, range_with, same_range, are_ranges, is_as_told, told_at}

-- ---- one range within another

abbrev IsIn : MinMax → ℤ → Type 0
IsIn range n = in_range range n ≡ true

widened_has : (range : MinMax) (n : ℤ) → IsIn (widened range n) n
widened_has Empty n = one n
  where
    one : (n : ℤ) → (int_le n n && int_le n n) ≡ true
    one n = grind (arith, ints)
widened_has (Of least greatest) n = one least greatest n
  where
    one : (least greatest n : ℤ) → (int_le (cond (int_lt n least) n least) n && int_le n (cond (int_lt greatest n) n greatest)) ≡ true
    one least greatest n = grind (arith, ints)

widened_keeps : (range : MinMax) (n m : ℤ) → IsIn range m → IsIn (widened range n) m
widened_keeps Empty n m e = cc e
widened_keeps (Of least greatest) n m e = one least greatest n m e
  where
    one : (least greatest n m : ℤ) → (int_le least m && int_le m greatest) ≡ true → (int_le (cond (int_lt n least) n least) m && int_le m (cond (int_lt greatest n) n greatest)) ≡ true
    one least greatest n m e = grind (arith, ints)

cell_keeps : (range : MinMax) (c : Cell) (m : ℤ) → IsIn range m → IsIn (with_cell range c) m
cell_keeps range cell.Null m e = e
cell_keeps range (cell.Int n) m e = widened_keeps range n m e
cell_keeps range (cell.Uint n) m e = widened_keeps range (pos n) m e
cell_keeps range (cell.Bytes bytes) m e = e

all_keep : (column : ℕ) (range : MinMax) (vs : List Version) (m : ℤ) → IsIn range m → IsIn (range_with column range vs) m
all_keep column range [] m e = e
all_keep column range (v ∷ vs) m e = all_keep column (with_cell range (cell_of column v)) vs m (cell_keeps range (cell_of column v) m e)

-- ---- each version's number

-- the number of a cell, or none where there is no such cell
number_is : (column : ℕ) (cells : List Cell) → number_in column cells ≡ number_of (get_or cells column cell.Null)
number_is zero [] = refl
number_is (suc column) [] = refl
number_is zero (c ∷ cells) = refl
number_is (suc column) (c ∷ cells) = number_is column cells

cell_in : (range : MinMax) (c : Cell) → elim (number_of c) [ None ↦ true | Some n ↦ in_range (with_cell range c) n ] ≡ true
cell_in range cell.Null = refl
cell_in range (cell.Int n) = widened_has range n
cell_in range (cell.Uint n) = widened_has range (pos n)
cell_in range (cell.Bytes bytes) = refl

first_in : (column : ℕ) (range total : MinMax) (v : Version) → ((m : ℤ) → IsIn (with_cell range (cell_of column v)) m → IsIn total m) → is_within_range column total v.cells ≡ true
first_in column range total v up = ap (λ o. elim o [ None ↦ true | Some n ↦ in_range total n ]) (number_is column v.cells) ∙ by (number_of (cell_of column v)) (cell_in range (cell_of column v))
  where
    by : (o : Option ℤ) → elim o [ None ↦ true | Some n ↦ in_range (with_cell range (cell_of column v)) n ] ≡ true → elim o [ None ↦ true | Some n ↦ in_range total n ] ≡ true
    by None e = refl
    by (Some n) e = up n e

all_in : (column : ℕ) (range total : MinMax) (vs : List Version) → range_with column range vs ≡ total → AllByRecursion (λ (v : Version). is_within_range column total v.cells ≡ true) vs
all_in column range total [] e = tt
all_in column range total (v ∷ vs) e = (
  first_in column range total v (λ m is. subst (λ r. IsIn r m) e (all_keep column (with_cell range (cell_of column v)) vs m is)),
  all_in column (with_cell range (cell_of column v)) total vs e,
)

-- ---- the ranges of an entry

and_left : (a b : Bool) → (a && b) ≡ true → a ≡ true
and_left true b e = refl
and_left false b e = e

and_right : (a b : Bool) → (a && b) ≡ true → b ≡ true
and_right true b e = e
and_right false b e = absurd (true≢false (sym e))

int_is : (a b : ℤ) → int_eq a b ≡ true → a ≡ b
int_is a b e = grind (arith, ints)

same_is : (a b : MinMax) → same_range a b ≡ true → b ≡ a
same_is Empty Empty e = refl
same_is Empty (Of c d) e = cc e
same_is (Of a b) Empty e = cc e
same_is (Of a b) (Of c d) e = (λ i. Of (sym (int_is a c (and_left (int_eq a c) (int_eq b d) e)) i) (sym (int_is b d (and_right (int_eq a c) (int_eq b d) e)) i))

some_is : (a b : MinMax) → Some a ≡ Some b → a ≡ b
some_is a b e = cc e

range_there : (ranges : List MinMax) (from k : ℕ) (vs : List Version) (range : MinMax) → are_ranges ranges from vs ≡ true → slice_get ranges k ≡ Some range → range_with (from + k) Empty vs ≡ range
range_there [] from k vs range e at = cc at
range_there (r ∷ ranges) from zero vs range e at =
    let same : range_with from Empty vs ≡ r = same_is r (range_with from Empty vs) (and_left (same_range r (range_with from Empty vs)) (are_ranges ranges (from + 1) vs) e) in
    let place : from + 0 ≡ from = omega arith in
    ap (λ n. range_with n Empty vs) place ∙ same ∙ some_is r range at
range_there (r ∷ ranges) from (suc k) vs range e at =
    let place : from + suc k ≡ from + 1 + k = omega arith in
    ap (λ n. range_with n Empty vs) place ∙ range_there ranges (from + 1) k vs range (and_right (same_range r (range_with from Empty vs)) (are_ranges ranges (from + 1) vs) e) at

zero_plus : (n : ℕ) → n ≡ 0 + n
zero_plus n = omega arith

pub ranges_tell : (columns : List Column) (pack : Pack) (end column : ℕ) (bytes : List ℕ) (range : MinMax) (versions : List Version) → told_at pack end columns bytes ≡ Ok versions → slice_get pack.ranges column ≡ Some range → AllByRecursion (λ (v : Version). is_within_range column range v.cells ≡ true) versions
unfolding told_at
ranges_tell columns pack end column bytes range versions e at =
    let a = bind_ok (versions_in end pack.place columns bytes) _ versions e in
    let b = if_ok (is_as_told pack a.0) a.0 versions (Damaged pack.place) a.2 in
    let told : are_ranges pack.ranges 0 a.0 ≡ true =
    and_right (int_eq _ pack.high) (are_ranges pack.ranges 0 a.0) (and_right (int_eq _ pack.low) _ (and_right (length a.0 == pack.count) _ b.0)) in
    subst (AllByRecursion (λ (v : Version). is_within_range column range v.cells ≡ true)) b.1 (all_in column Empty range a.0 (ap (λ n. range_with n Empty a.0) (zero_plus column) ∙ range_there pack.ranges 0 column a.0 range told at))
