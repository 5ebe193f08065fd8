-- The cells of a row fit the schema's columns.
use Rattle.std.proofs.Common.{◌≡◌, ◌∙◌, refl, ap, subst, ℕ, ℤ, List, [], ◌∷◌, Option, Some, None, Result, Ok, Err, option_map}
use Rattle.std.specs.Map.{lookup}
use Rattle.std.specs.Option.{ok_or}
use Rattle.std.specs.Prelude.{nat_eq}
use Rattle.flash_list.specs.Steps.{◌>>=◌}
use Rattle.column_block.specs.Cells.{cell_at, cell_of, cells_of, int_of, uint_of}
use Rattle.column_block.specs.Suiting.{CellsFit, IsOfKind}
use Rattle.column_block.specs.declared.cell.Cell.{Cell}
use Rattle.column_block.specs.declared.cell.Cell.TheVariants as cell
use Rattle.column_block.specs.declared.column.Column.{Column}
use Rattle.column_block.specs.declared.column.Kind.{Kind}
use Rattle.column_block.specs.declared.column.Kind.TheVariants as column_kind
use Rattle.row_codec.specs.Rows.{row_at}
use Rattle.row_decode.specs.Known.{unknown_column}
use Rattle.committed_log.specs.Admission.{row_fault_of}
use Rattle.committed_log.specs.Reads.{cells}
use Rattle.committed_log.specs.declared.unlawful.RowFault.{RowFault}
use Rattle.committed_log.specs.declared.unlawful.RowFault.TheVariants as row_fault
use Rattle.log_laws.proofs.Small.{some_is}

bind_ok : {A B E : Type 0} (r : Result A E) (f : A → Result B E) (y : B) → (r >>= f) ≡ Ok y → (x : A) × (r ≡ Ok x) × (f x ≡ Ok y)
bind_ok (Ok x) f y e = (x, refl, e)
bind_ok (Err e) f y h = cc h

ok_is : {A E : Type 0} (x y : A) → ◌≡◌ {A = Result A E} (Ok x) (Ok y) → x ≡ y
ok_is x y e = cc e

int_fits : (o : Option ℤ) (c : Cell) → option_map cell.Int o ≡ Some c → IsOfKind column_kind.Int c
int_fits None c e = cc e
int_fits (Some n) c e = subst (IsOfKind column_kind.Int) (some_is (cell.Int n) c e) refl

uint_fits : (o : Option ℕ) (c : Cell) → option_map cell.Uint o ≡ Some c → IsOfKind column_kind.Uint c
uint_fits None c e = cc e
uint_fits (Some n) c e = subst (IsOfKind column_kind.Uint) (some_is (cell.Uint n) c e) refl

kind_fits : (k : Kind) (bytes : List ℕ) (c : Cell) → cell_of k bytes ≡ Some c → IsOfKind k c
kind_fits column_kind.Int bytes c e = int_fits (int_of bytes) c e
kind_fits column_kind.Uint bytes c e = uint_fits (uint_of bytes) c e
kind_fits column_kind.Bytes bytes c e = subst (IsOfKind column_kind.Bytes) (some_is (cell.Bytes bytes) c e) refl

cell_fits : (column : Column) (o : Option (List ℕ)) (c : Cell) → cell_at column o ≡ Ok c → IsOfKind column.kind c
cell_fits column None c e = subst (IsOfKind column.kind) (ok_is cell.Null c e) (tt {0})
cell_fits column (Some bytes) c e = by (cell_of column.kind bytes) refl e
  where
    by : (o : Option Cell) → cell_of column.kind bytes ≡ o → ok_or o column.id ≡ Ok c → IsOfKind column.kind c
    by None is h = cc h
    by (Some x) is h = kind_fits column.kind bytes c (is ∙ ap (λ (z : Cell). Some z) (ok_is x c h))

pub cells_fit : (columns : List Column) (row : List (ℕ × List ℕ) × List ℕ) (found : List Cell) → cells_of columns row ≡ Ok found → CellsFit columns found
cells_fit [] row found e = subst (CellsFit []) (ok_is [] found e) (tt {0})
cells_fit (column ∷ columns) row found e =
    let a = bind_ok (cell_at column (lookup (nat_eq column.id) row.0)) _ found e in
    let b = bind_ok (cells_of columns row) _ found a.2 in
    subst (CellsFit (column ∷ columns)) (ok_is (a.0 ∷ b.0) found b.2) (cell_fits column (lookup (nat_eq column.id) row.0) a.0 a.1, cells_fit columns row b.0 b.1)

-- a value with no fault has its cells
pub row_fits : (schema : List Column) (value : List ℕ) → row_fault_of schema value ≡ None → CellsFit schema (cells schema value)
row_fits schema value e = by (row_at value) e
  where
    of_cells : (row : List (ℕ × List ℕ) × List ℕ) (r : Result (List Cell) ℕ) → cells_of schema row ≡ r → (o : Option RowFault) → elim r as (λ _. Option RowFault) [ Err id ↦ Some row_fault.Form | Ok found ↦ o ] ≡ None → CellsFit schema (elim r as (λ _. List Cell) [ Err id ↦ [] | Ok found ↦ found ])
    of_cells row (Err id) is o h = cc h
    of_cells row (Ok found) is o h = cells_fit schema row found is

    by : {E : Type 0} (r : Result (List (ℕ × List ℕ) × List ℕ) E) → elim r as (λ _. Option RowFault) [ Err e ↦ Some row_fault.Form | Ok row ↦ elim (cells_of schema row) as (λ _. Option RowFault) [ Err id ↦ Some row_fault.Form | Ok found ↦ option_map row_fault.UnknownColumn (unknown_column schema row) ] ] ≡ None
        → CellsFit schema (elim r as (λ _. List Cell) [ Err e ↦ [] | Ok row ↦ elim (cells_of schema row) as (λ _. List Cell) [ Err id ↦ [] | Ok found ↦ found ] ])
    by (Err x) h = cc h
    by (Ok row) h = of_cells row (cells_of schema row) refl (option_map row_fault.UnknownColumn (unknown_column schema row)) h
