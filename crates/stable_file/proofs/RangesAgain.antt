-- The ranges of an entry that is written are read again.
use Rattle.std.proofs.Common.{◌≡◌, ℕ, ℤ, pos, ◌+◌, Bool, true, false, cond, List, [], ◌∷◌, ◌++◌, map, drop, get_or, Ok, refl, sym, ap, ◌∙◌, subst, append_assoc, arith}
use Rattle.std.proofs.lemmas.Int.{ints}
use Rattle.std.specs.Prelude.{FitsSigned, int_lt, IfSome}
use Rattle.std.specs.Int.{w64}
use Rattle.std.specs.List.{AllByRecursion}
use Rattle.std.proofs.lemmas.List.{get_or-drop}
use Rattle.column_block.specs.declared.column.Column.{Column}
use Rattle.column_block.specs.declared.column.Kind.{Kind}
use Rattle.column_block.specs.declared.column.Kind.TheVariants as kind
use Rattle.column_block.specs.declared.column.MinMax.{MinMax}
use Rattle.column_block.specs.declared.column.MinMax.TheVariants.{Empty, Of}
use Rattle.column_block.specs.declared.cell.Cell.{Cell}
use Rattle.column_block.specs.declared.cell.Cell.TheVariants as cell
use Rattle.column_block.specs.declared.cell.Version.{Version}
use Rattle.column_codec.specs.Numbers.{AllFit}
use Rattle.pack_codec.specs.declared.field.Field.TheVariants as field
use Rattle.pack_codec.specs.Spelling.{ListFits, UintFits, cell_of, int_in, uint_in, int_of, uint_of, columns_of}
use Rattle.column_block.specs.Suiting.{CellsFit, IsOfKind}
use Rattle.stable_file.specs.Footer.{range_at}
use Rattle.stable_file.specs.Ranges.{widened, with_cell, range_with}
use Rattle.stable_file.specs.Steps.{one_for_each}
use Rattle.stable_file.specs.Building.{range, ranges}
use Rattle.stable_file.specs.Laws.{range_told, ranges_told}
use Rattle.stable_file.proofs.NumbersAgain.{InKind, RangeInKind, numbers_again}
use Rattle.stable_file.proofs.ToldAgain.{FitsFrom, SuitsFrom, no_cell, all_next}

-- ---- a range with one more number

one_of : (kd : Kind) (b : Bool) (x y : ℤ) → InKind kd x → InKind kd y → InKind kd (cond b x y)
one_of kd true x y fx fy = fx
one_of kd false x y fx fy = fy

in_order : (least greatest n : ℤ) → int_lt greatest least ≡ false → int_lt (cond (int_lt greatest n) n greatest) (cond (int_lt n least) n least) ≡ false
in_order least greatest n order = grind (arith, ints)

widened_in : (kd : Kind) (r : MinMax) (n : ℤ) → RangeInKind kd r → InKind kd n → RangeInKind kd (widened r n)
widened_in kd Empty n fits fit = let same : int_lt n n ≡ false = grind (arith, ints) in (fit, fit, same)
widened_in kd (Of least greatest) n fits fit = (one_of kd (int_lt n least) n least fit fits.0, one_of kd (int_lt greatest n) n greatest fit fits.1, in_order least greatest n fits.2)

-- ---- the numbers of a column

int_more : (r : MinMax) (c : Cell) → RangeInKind kind.Int r → IsOfKind kind.Int c → IfSome (int_in c) (FitsSigned w64) → RangeInKind kind.Int (with_cell r c)
int_more r cell.Null fits is fit = fits
int_more r (cell.Int n) fits is fit = widened_in kind.Int r n fits fit
int_more r (cell.Uint n) fits is fit = absurd (cc is)
int_more r (cell.Bytes b) fits is fit = fits

uint_more : (r : MinMax) (c : Cell) → RangeInKind kind.Uint r → IsOfKind kind.Uint c → UintFits (uint_in c) → RangeInKind kind.Uint (with_cell r c)
uint_more r cell.Null fits is fit = fits
uint_more r (cell.Int n) fits is fit = absurd (cc is)
uint_more r (cell.Uint n) fits is fit = widened_in kind.Uint r (pos n) fits fit
uint_more r (cell.Bytes b) fits is fit = fits

-- each version's cell in column k is of this kind
abbrev AreOfKind : Kind → ℕ → List Version → Type 0
AreOfKind kd k versions = AllByRecursion (λ v. IsOfKind kd (cell_of k v)) versions

int_range : (k : ℕ) (r : MinMax) (versions : List Version) → AreOfKind kind.Int k versions → AllFit (map (int_of (field.Cell k)) versions) → RangeInKind kind.Int r → RangeInKind kind.Int (range_with k r versions)
int_range k r [] are fit fits = fits
int_range k r (v ∷ versions) are fit fits = int_range k (with_cell r (cell_of k v)) versions are.1 fit.1 (int_more r (cell_of k v) fits are.0 fit.0)

uint_range : (k : ℕ) (r : MinMax) (versions : List Version) → AreOfKind kind.Uint k versions → AllByRecursion UintFits (map (uint_of (field.Cell k)) versions) → RangeInKind kind.Uint r → RangeInKind kind.Uint (range_with k r versions)
uint_range k r [] are fit fits = fits
uint_range k r (v ∷ versions) are fit fits = uint_range k (with_cell r (cell_of k v)) versions are.1 fit.1 (uint_more r (cell_of k v) fits are.0 fit.0)

-- ---- the cells of versions that suit the schema

first_kind : (column : Column) (columns : List Column) (cells : List Cell) → CellsFit (column ∷ columns) cells → IsOfKind column.kind (get_or cells 0 cell.Null)
first_kind column columns [] h = absurd h
first_kind column columns (c ∷ cells) h = h.0

kind_here : (gone : Bool) (k : ℕ) (column : Column) (columns : List Column) (cells : List Cell) → FitsFrom k (column ∷ columns) gone cells → IsOfKind column.kind (get_or cells k cell.Null)
kind_here true k column columns cells h = subst (λ (c : Cell). IsOfKind column.kind c) (sym (ap (λ (cs : List Cell). get_or cs k cell.Null) h ∙ no_cell k)) tt
kind_here false k column columns cells h =
    let sum : k + 0 ≡ k = omega arith in
    subst (λ (c : Cell). IsOfKind column.kind c) (get_or-drop k cells 0 cell.Null ∙ ap (λ n. get_or cells n cell.Null) sum) (first_kind column columns (drop k cells) h)

kinds_here : (k : ℕ) (column : Column) (columns : List Column) (versions : List Version) → AllByRecursion (SuitsFrom k (column ∷ columns)) versions → AreOfKind column.kind k versions
kinds_here k column columns [] all = tt
kinds_here k column columns (v ∷ versions) all = (kind_here v.gone k column columns v.cells all.0, kinds_here k column columns versions all.1)

-- ---- ranges

range_again : (column : Column) (columns : List Column) (kd : Kind) (k end : ℕ) (versions : List Version) (rest : List ℕ) → column.kind ≡ kd → AreOfKind kd k versions → AllByRecursion ListFits (columns_of (column ∷ columns) k versions)
    → range_at end column (range kd k versions ++ rest) ≡ Ok (range_told kd k versions, rest)
range_again column columns kind.Bytes k end versions rest is are fit = rw is refl
range_again column columns kind.Int k end versions rest is are fit =
    let values : AllFit (map (int_of (field.Cell k)) versions) = (rw is at fit.0).values in
    rw is (numbers_again kind.Int end (range_with k Empty versions) rest (int_range k Empty versions are values (tt {0})))
range_again column columns kind.Uint k end versions rest is are fit =
    let values : AllByRecursion UintFits (map (uint_of (field.Cell k)) versions) = (rw is at fit.0).values in
    rw is (numbers_again kind.Uint end (range_with k Empty versions) rest (uint_range k Empty versions are values (tt {0})))

pub ranges_again : (columns : List Column) (k end : ℕ) (versions : List Version) (rest : List ℕ) → AllByRecursion (SuitsFrom k columns) versions → AllByRecursion ListFits (columns_of columns k versions)
    → one_for_each (range_at end) columns (ranges columns k versions ++ rest) ≡ Ok (ranges_told columns k versions, rest)
unfolding one_for_each
ranges_again [] k end versions rest all fit = refl
ranges_again (column ∷ columns) k end versions rest all fit =
    let parts : (range column.kind k versions ++ ranges columns (k + 1) versions) ++ rest ≡ range column.kind k versions ++ (ranges columns (k + 1) versions ++ rest) = append_assoc (range column.kind k versions) (ranges columns (k + 1) versions) rest in
    let first = range_again column columns column.kind k end versions (ranges columns (k + 1) versions ++ rest) refl (kinds_here k column columns versions all) fit in
    let others = ranges_again columns (k + 1) end versions rest (all_next k column columns versions all) fit.1 in
    rw (parts, first, others) refl
