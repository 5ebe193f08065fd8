-- A pack that is written is as its entry tells.
use Rattle.std.proofs.Common.{◌≡◌, ℕ, zero, suc, ◌+◌, ◌-◌, Bool, true, false, eqb, List, [], ◌∷◌, length, drop, get_or, refl, sym, ap, ◌∙◌, subst, arith}
use Rattle.std.specs.Prelude.{◌&&◌}
use Rattle.std.specs.Ordering.{int_eq}
use Rattle.std.specs.List.{AllByRecursion}
use Rattle.std.proofs.lemmas.Cmp.{int_eq_equiv}
use Rattle.std.proofs.lemmas.List.{drop-drop, get_or-drop}
use Rattle.column_block.specs.declared.column.Column.{Column}
use Rattle.column_block.specs.declared.column.Kind.{Kind}
use Rattle.column_block.specs.declared.column.Kind.TheVariants as kind
use Rattle.column_block.specs.declared.column.MinMax.{MinMax}
use Rattle.column_block.specs.declared.column.MinMax.TheVariants.{Empty, Of}
use Rattle.column_block.specs.declared.cell.Cell.{Cell}
use Rattle.column_block.specs.declared.cell.Cell.TheVariants as cell
use Rattle.column_block.specs.declared.cell.Version.{Version}
use Rattle.column_block.specs.Suiting.{Suits, CellsFit}
use Rattle.stable_file.specs.Ranges.{with_cell, range_with, same_range, are_ranges, told_at, handle_at}
use Rattle.stable_file.specs.Laws.{range_told, ranges_told, IsReadAgain, IsAsTold}

-- ---- a column of bytes has no number

fit_next : (column : Column) (columns : List Column) (cells : List Cell) → CellsFit (column ∷ columns) cells → CellsFit columns (drop 1 cells)
fit_next column columns [] h = absurd h
fit_next column columns (c ∷ cells) h = h.1

first_fit : (column : Column) (columns : List Column) (cells : List Cell) → CellsFit (column ∷ columns) cells → column.kind ≡ kind.Bytes → with_cell Empty (get_or cells 0 cell.Null) ≡ Empty
first_fit column columns [] h is = absurd h
first_fit column columns (cell.Null ∷ cells) h is = refl
first_fit column columns (cell.Bytes b ∷ cells) h is = refl
first_fit column columns (cell.Int n ∷ cells) h is = absurd (cc (h.0, is))
first_fit column columns (cell.Uint n ∷ cells) h is = absurd (cc (h.0, is))

-- a version has cells for these columns from place k on, or it is gone
abbrev pub FitsFrom : ℕ → List Column → Bool → List Cell → Type 0
FitsFrom k columns gone cells = elim gone as (λ _. Type 0) [ true ↦ cells ≡ [] | false ↦ CellsFit columns (drop k cells) ]

abbrev pub SuitsFrom : ℕ → List Column → Version → Type 0
SuitsFrom k columns v = FitsFrom k columns v.gone v.cells

pub no_cell : (k : ℕ) → get_or [] k cell.Null ≡ cell.Null
no_cell zero = refl
no_cell (suc k) = refl

cells_next : (gone : Bool) (k : ℕ) (column : Column) (columns : List Column) (cells : List Cell) → FitsFrom k (column ∷ columns) gone cells → FitsFrom (k + 1) columns gone cells
cells_next true k column columns cells h = h
cells_next false k column columns cells h = subst (CellsFit columns) (drop-drop 1 k cells) (fit_next column columns (drop k cells) h)

cell_here : (gone : Bool) (k : ℕ) (column : Column) (columns : List Column) (cells : List Cell) → FitsFrom k (column ∷ columns) gone cells → column.kind ≡ kind.Bytes → with_cell Empty (get_or cells k cell.Null) ≡ Empty
cell_here true k column columns cells h is = ap (λ (cs : List Cell). with_cell Empty (get_or cs k cell.Null)) h ∙ ap (with_cell Empty) (no_cell k)
cell_here false k column columns cells h is =
    let sum : k + 0 ≡ k = omega arith in
    ap (with_cell Empty) (ap (λ n. get_or cells n cell.Null) (sym sum) ∙ sym (get_or-drop k cells 0 cell.Null)) ∙ first_fit column columns (drop k cells) h is

pub all_next : (k : ℕ) (column : Column) (columns : List Column) (versions : List Version) → AllByRecursion (SuitsFrom k (column ∷ columns)) versions → AllByRecursion (SuitsFrom (k + 1) columns) versions
all_next k column columns [] all = tt
all_next k column columns (v ∷ versions) all = (cells_next v.gone k column columns v.cells all.0, all_next k column columns versions all.1)

no_numbers : (k : ℕ) (column : Column) (columns : List Column) (versions : List Version) → AllByRecursion (SuitsFrom k (column ∷ columns)) versions → column.kind ≡ kind.Bytes → range_with k Empty versions ≡ Empty
no_numbers k column columns [] all is = refl
no_numbers k column columns (v ∷ versions) all is = ap (λ (r : MinMax). range_with k r versions) (cell_here v.gone k column columns v.cells all.0 is) ∙ no_numbers k column columns versions all.1 is

-- ---- ranges

same_refl : (r : MinMax) → same_range r r ≡ true
same_refl Empty = refl
same_refl (Of a b) = ap (λ x. x && int_eq b b) (int_eq_equiv.refl a) ∙ int_eq_equiv.refl b

one_range : (kd : Kind) (k : ℕ) (versions : List Version) → (kd ≡ kind.Bytes → range_with k Empty versions ≡ Empty) → same_range (range_told kd k versions) (range_with k Empty versions) ≡ true
one_range kind.Bytes k versions none = ap (same_range Empty) (none refl)
one_range kind.Int k versions none = same_refl (range_with k Empty versions)
one_range kind.Uint k versions none = same_refl (range_with k Empty versions)

ranges_again : (columns : List Column) (k : ℕ) (versions : List Version) → AllByRecursion (SuitsFrom k columns) versions → are_ranges (ranges_told columns k versions) k versions ≡ true
ranges_again [] k versions all = refl
ranges_again (column ∷ columns) k versions all =
    ap (λ b. b && are_ranges (ranges_told columns (k + 1) versions) (k + 1) versions) (one_range column.kind k versions (no_numbers k column columns versions all)) ∙ ranges_again columns (k + 1) versions (all_next k column columns versions all)

-- ---- the pack

pub told_again : (columns : List Column) (versions : List Version) → AllByRecursion (Suits columns) versions → IsReadAgain columns versions → IsAsTold columns versions
unfolding told_at
told_again columns versions suits read = λ end at.
    let n = length versions in
    let count : eqb n n ≡ true = grind arith in
    let low = int_eq_equiv.refl (handle_at versions 0) in
    let high = int_eq_equiv.refl (handle_at versions (n - 1)) in
    let ranges = ranges_again columns 0 versions suits in
    rw (read end at, count, low, high, ranges) refl
