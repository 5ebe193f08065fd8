-- What is read suits the schema that it was read with.
use Rattle.std.proofs.Common.{◌≡◌, ◌∙◌, refl, sym, ap, subst, ℕ, ℤ, zero, suc, ◌+◌, Bool, true, false, cond, nat_lt, length, take, drop, List, [], ◌∷◌, map, get_or, Option, Some, None, Result, Ok, Err}
use Rattle.std.specs.List.{AllByRecursion}
use Rattle.std.specs.Int.{w64}
use Rattle.std.specs.Result.{result_ok}
use Rattle.flash_list.specs.Steps.{◌>>=◌}
use Rattle.flash_list.specs.Fields.{number_at}
use Rattle.column_block.specs.declared.column.Column.{Column}
use Rattle.column_block.specs.declared.column.Kind.{Kind}
use Rattle.column_block.specs.declared.column.Kind.TheVariants as column_kind
use Rattle.column_block.specs.declared.cell.Cell.{Cell}
use Rattle.column_block.specs.declared.cell.Version.{Version}
use Rattle.column_codec.specs.declared.list.ColumnList.{ColumnList}
use Rattle.column_codec.specs.declared.list.ColumnList.TheVariants as list
use Rattle.column_codec.specs.Lists.{list_at, ints_of, uints_of, texts_of}
use Rattle.pack_codec.specs.declared.fault.FormError.TheVariants.{Damaged}
use Rattle.pack_codec.specs.declared.heads.Heads.{Heads}
use Rattle.pack_codec.specs.Reading.{any_at, any_behind, found_at, list_behind, list_kind, column_in, columns_at, width_at, heads_at, ended, pack_at}
use Rattle.pack_codec.specs.Rows.{cell_at, int_cell, uint_cell, text_cell, is_gone, version_at, versions_from, null_from}
use Rattle.column_block.specs.Suiting.{IsOfKind, CellsFit, Suits}
use Rattle.pack_codec.proofs.Binds.{bind_ok, ok_is}

-- a list of a column's kind
abbrev IsListOf : Kind → ColumnList → Type 0
IsListOf column_kind.Int (list.Int values) = Unit {0}
IsListOf column_kind.Uint (list.Uint values) = Unit {0}
IsListOf column_kind.Bytes (list.Bytes values) = Unit {0}
IsListOf _ _ = ⊥

abbrev AreListsOf : List Column → List ColumnList → Type 0
AreListsOf [] [] = Unit {0}
AreListsOf (column ∷ columns) (l ∷ lists) = IsListOf column.kind l × AreListsOf columns lists
AreListsOf _ _ = ⊥

some_is : {X : Type 0} (x y : X) → Some x ≡ Some y → x ≡ y
some_is x y e = cc e

any_is : (k : Kind) (count : ℕ) (bytes : List ℕ) (l : ColumnList) → any_at (list_kind k) count bytes ≡ Some l → IsListOf k l
unfolding list_at
any_is column_kind.Int count bytes l e = by (ints_of count bytes) e
  where
    by : {E : Type 0} (r : Result (List (Option ℤ)) E) → result_ok (r >>= λ values. Ok (list.Int values)) ≡ Some l → IsListOf column_kind.Int l
    by (Ok values) h = subst (IsListOf column_kind.Int) (some_is (list.Int values) l h) (tt {0})
    by (Err e) h = cc h
any_is column_kind.Uint count bytes l e = by (uints_of count bytes) e
  where
    by : {E : Type 0} (r : Result (List (Option ℕ)) E) → result_ok (r >>= λ values. Ok (list.Uint values)) ≡ Some l → IsListOf column_kind.Uint l
    by (Ok values) h = subst (IsListOf column_kind.Uint) (some_is (list.Uint values) l h) (tt {0})
    by (Err e) h = cc h
any_is column_kind.Bytes count bytes l e = by (texts_of count bytes) e
  where
    by : {E : Type 0} (r : Result (List (Option (List ℕ))) E) → result_ok (r >>= λ values. Ok (list.Bytes values)) ≡ Some l → IsListOf column_kind.Bytes l
    by (Ok values) h = subst (IsListOf column_kind.Bytes) (some_is (list.Bytes values) l h) (tt {0})
    by (Err e) h = cc h

found_is : {X : Type 0} (end : ℕ) (o : Option X) (bytes rest : List ℕ) (y : X × List ℕ) → found_at end o bytes rest ≡ Ok y → o ≡ Some y.0
found_is {X} end None bytes rest y h = cc h
found_is {X} end (Some x) bytes rest y h = ap (λ (p : X × List ℕ). Some p.0) (ok_is _ y h)

column_is : (marks : List (Option ℕ)) (count : ℕ) (o : Option ColumnList) (l : ColumnList) → column_in marks count o ≡ Some l → o ≡ Some l
column_is marks count None l h = cc h
column_is marks count (Some x) l h = by (null_from marks x 0 count) h
  where
    by : (b : Bool) → cond b (Some x) None ≡ Some l → Some x ≡ Some l
    by true e = e
    by false e = cc e

-- what a column's list is read as
behind_is : (k : Kind) (marks : List (Option ℕ)) (count end : ℕ) (bytes : List ℕ) (y : ColumnList × List ℕ) → list_behind (list_kind k) (column_in marks count) count end bytes ≡ Ok y → IsListOf k y.0
unfolding list_behind any_behind
behind_is k marks count end bytes y e =
    let a = bind_ok (any_behind (list_kind k) count end bytes) _ y e in
    let found : column_in marks count a.0.0 ≡ Some y.0 = found_is end (column_in marks count a.0.0) a.0.1 a.0.2 y a.2 in
    let b = bind_ok (number_at w64 (Damaged end) bytes) _ a.0 a.1 in
    of_size b.0.0 b.0.1 a.0 (nat_lt (length b.0.1) b.0.0) b.2 (column_is marks count a.0.0 y.0 found)
  where
    of_size : (size : ℕ) (rest : List ℕ) (x : Option ColumnList × List ℕ × List ℕ) (t : Bool) → cond t (Err (Damaged end)) (Ok (any_at (list_kind k) count (take size rest), rest, drop size rest)) ≡ Ok x → x.0 ≡ Some y.0 → IsListOf k y.0
    of_size size rest x true h is = cc h
    of_size size rest x false h is = any_is k count (take size rest) y.0 (ap (λ (p : Option ColumnList × List ℕ × List ℕ). p.0) (ok_is _ x h) ∙ is)

columns_are : (end count : ℕ) (marks : List (Option ℕ)) (columns : List Column) (bytes : List ℕ) (y : List ColumnList × List ℕ) → columns_at end count marks columns bytes ≡ Ok y → AreListsOf columns y.0
unfolding columns_at
columns_are end count marks [] bytes y e = subst (AreListsOf []) (ap (λ (p : List ColumnList × List ℕ). p.0) (ok_is _ y e)) (tt {0})
columns_are end count marks (column ∷ columns) bytes y e =
    let a = bind_ok (list_behind (list_kind column.kind) (column_in marks count) count end bytes) _ y e in
    let b = bind_ok (columns_at end count marks columns a.0.1) _ y a.2 in
    subst (AreListsOf (column ∷ columns)) (ap (λ (p : List ColumnList × List ℕ). p.0) (ok_is _ y b.2)) (behind_is column.kind marks count end bytes a.0 a.1, columns_are end count marks columns a.0.1 b.0 b.1)

-- ---- cells

int_fits : (o : Option ℤ) → IsOfKind column_kind.Int (int_cell o)
int_fits None = tt {0}
int_fits (Some n) = refl

uint_fits : (o : Option ℕ) → IsOfKind column_kind.Uint (uint_cell o)
uint_fits None = tt {0}
uint_fits (Some n) = refl

text_fits : (o : Option (List ℕ)) → IsOfKind column_kind.Bytes (text_cell o)
text_fits None = tt {0}
text_fits (Some n) = refl

cell_fits : (k : Kind) (l : ColumnList) (i : ℕ) → IsListOf k l → IsOfKind k (cell_at l i)
cell_fits column_kind.Int (list.Int values) i is = int_fits (get_or values i None)
cell_fits column_kind.Int (list.Uint values) i is = absurd is
cell_fits column_kind.Int (list.Bytes values) i is = absurd is
cell_fits column_kind.Uint (list.Int values) i is = absurd is
cell_fits column_kind.Uint (list.Uint values) i is = uint_fits (get_or values i None)
cell_fits column_kind.Uint (list.Bytes values) i is = absurd is
cell_fits column_kind.Bytes (list.Int values) i is = absurd is
cell_fits column_kind.Bytes (list.Uint values) i is = absurd is
cell_fits column_kind.Bytes (list.Bytes values) i is = text_fits (get_or values i None)

cells_fit : (columns : List Column) (lists : List ColumnList) (i : ℕ) → AreListsOf columns lists → CellsFit columns (map (λ l. cell_at l i) lists)
cells_fit [] [] i are = tt {0}
cells_fit [] (l ∷ lists) i are = absurd are
cells_fit (column ∷ columns) [] i are = absurd are
cells_fit (column ∷ columns) (l ∷ lists) i are = (cell_fits column.kind l i are.0, cells_fit columns lists i are.1)

either : (columns : List Column) (gone : Bool) (cells : List Cell) → CellsFit columns cells → elim gone as (λ _. Type 0) [ true ↦ cond gone [] cells ≡ [] | false ↦ CellsFit columns (cond gone [] cells) ]
either columns true cells fit = refl
either columns false cells fit = fit

version_suits : (columns : List Column) (heads : Heads) (lists : List ColumnList) (i : ℕ) → AreListsOf columns lists → Suits columns (version_at heads lists i)
version_suits columns heads lists i are = either columns (is_gone heads.marks i) (map (λ l. cell_at l i) lists) (cells_fit columns lists i are)

versions_suit : (columns : List Column) (heads : Heads) (lists : List ColumnList) (i count : ℕ) → AreListsOf columns lists → AllByRecursion (Suits columns) (versions_from heads lists i count)
versions_suit columns heads lists i zero are = tt
versions_suit columns heads lists i (suc count) are = (version_suits columns heads lists i are, versions_suit columns heads lists (i + 1) count are)

-- The versions of a pack suit the schema that it is read with.
pub pack_suits : (columns : List Column) (end : ℕ) (bytes : List ℕ) (versions : List Version) → pack_at end columns bytes ≡ Ok versions → AllByRecursion (Suits columns) versions
unfolding pack_at
pack_suits columns end bytes versions e =
    let count = bind_ok (number_at w64 (Damaged end) bytes) _ versions e in
    let rest = bind_ok (width_at end (length columns) count.0.1) _ versions count.2 in
    let heads = bind_ok (heads_at end count.0.0 rest.0) _ versions rest.2 in
    let lists = bind_ok (columns_at end count.0.0 heads.0.0.marks columns heads.0.1) _ versions heads.2 in
    let done = bind_ok (ended end lists.0.1) _ versions lists.2 in
    subst (AllByRecursion (Suits columns)) (ok_is _ versions done.2) (versions_suit columns heads.0.0 lists.0.0 0 count.0.0 (columns_are end count.0.0 heads.0.0.marks columns heads.0.1 lists.0 lists.1))
