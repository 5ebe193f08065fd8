-- Equal versions, by a test.
use Rattle.std.proofs.Common.{◌≡◌, ◌∙◌, refl, sym, ap, ℕ, Bool, true, false, true≢false, ◌&&◌, List, [], ◌∷◌, Option, Some, None}
use Rattle.std.specs.Ordering.{int_eq}
use Rattle.std.specs.Prelude.{◌==◌}
use Rattle.column_block.specs.declared.cell.Cell.{Cell}
use Rattle.column_block.specs.declared.cell.Cell.TheVariants as cell
use Rattle.column_block.specs.declared.cell.Version.{Version}
use Rattle.committed_log.proofs.Faults.{both_true}
use Rattle.good_replica.specs.Check.{same_numbers, same_cell, same_cells, same_bool, same_version, is_it}
use Rattle.good_replica.proofs.Facts.{and_true, int_same, int_itself}
use Rattle.good_replica.proofs.Telling.{Tells}
use Rattle.committed_log.proofs.Ranks.{same_number}
use Rattle.committed_log.proofs.Closed.{same_is}

numbers_are : (xs ys : List ℕ) → same_numbers xs ys ≡ true → xs ≡ ys
numbers_are [] [] e = refl
numbers_are [] (y ∷ ys) e = absurd (true≢false (sym e))
numbers_are (x ∷ xs) [] e = absurd (true≢false (sym e))
numbers_are (x ∷ xs) (y ∷ ys) e = (let both = both_true (x == y) (same_numbers xs ys) e in (λ i. same_number x y both.0 i ∷ numbers_are xs ys both.1 i))

numbers_itself : (xs : List ℕ) → same_numbers xs xs ≡ true
numbers_itself [] = refl
numbers_itself (x ∷ xs) = and_true (x == x) (same_numbers xs xs) (same_is x) (numbers_itself xs)

cell_is : (x y : Cell) → same_cell x y ≡ true → x ≡ y
cell_is cell.Null cell.Null e = refl
cell_is cell.Null (cell.Int b) e = absurd (true≢false (sym e))
cell_is cell.Null (cell.Uint b) e = absurd (true≢false (sym e))
cell_is cell.Null (cell.Bytes b) e = absurd (true≢false (sym e))
cell_is (cell.Int a) cell.Null e = absurd (true≢false (sym e))
cell_is (cell.Int a) (cell.Int b) e = ap cell.Int (int_same a b e)
cell_is (cell.Int a) (cell.Uint b) e = absurd (true≢false (sym e))
cell_is (cell.Int a) (cell.Bytes b) e = absurd (true≢false (sym e))
cell_is (cell.Uint a) cell.Null e = absurd (true≢false (sym e))
cell_is (cell.Uint a) (cell.Int b) e = absurd (true≢false (sym e))
cell_is (cell.Uint a) (cell.Uint b) e = ap cell.Uint (same_number a b e)
cell_is (cell.Uint a) (cell.Bytes b) e = absurd (true≢false (sym e))
cell_is (cell.Bytes a) cell.Null e = absurd (true≢false (sym e))
cell_is (cell.Bytes a) (cell.Int b) e = absurd (true≢false (sym e))
cell_is (cell.Bytes a) (cell.Uint b) e = absurd (true≢false (sym e))
cell_is (cell.Bytes a) (cell.Bytes b) e = ap cell.Bytes (numbers_are a b e)

cell_itself : (x : Cell) → same_cell x x ≡ true
cell_itself cell.Null = refl
cell_itself (cell.Int a) = int_itself a a refl
cell_itself (cell.Uint a) = same_is a
cell_itself (cell.Bytes a) = numbers_itself a

cells_are : (xs ys : List Cell) → same_cells xs ys ≡ true → xs ≡ ys
cells_are [] [] e = refl
cells_are [] (y ∷ ys) e = absurd (true≢false (sym e))
cells_are (x ∷ xs) [] e = absurd (true≢false (sym e))
cells_are (x ∷ xs) (y ∷ ys) e = (let both = both_true (same_cell x y) (same_cells xs ys) e in (λ i. cell_is x y both.0 i ∷ cells_are xs ys both.1 i))

cells_itself : (xs : List Cell) → same_cells xs xs ≡ true
cells_itself [] = refl
cells_itself (x ∷ xs) = and_true (same_cell x x) (same_cells xs xs) (cell_itself x) (cells_itself xs)

bool_is : (a b : Bool) → same_bool a b ≡ true → a ≡ b
bool_is true true e = refl
bool_is true false e = absurd (true≢false (sym e))
bool_is false true e = absurd (true≢false (sym e))
bool_is false false e = refl

bool_itself : (a : Bool) → same_bool a a ≡ true
bool_itself true = refl
bool_itself false = refl

pub version_is : (v w : Version) → same_version v w ≡ true → v ≡ w
version_is v w e =
    let a = both_true (int_eq v.handle w.handle) (v.ts == w.ts && (same_bool v.gone w.gone && same_cells v.cells w.cells)) e in
    let b = both_true (v.ts == w.ts) (same_bool v.gone w.gone && same_cells v.cells w.cells) a.1 in
    let c = both_true (same_bool v.gone w.gone) (same_cells v.cells w.cells) b.1 in
    (λ i. record { handle = int_same v.handle w.handle a.0 i; ts = same_number v.ts w.ts b.0 i; gone = bool_is v.gone w.gone c.0 i; cells = cells_are v.cells w.cells c.1 i })

version_itself : (v : Version) → same_version v v ≡ true
version_itself v = and_true (int_eq v.handle v.handle) (v.ts == v.ts && (same_bool v.gone v.gone && same_cells v.cells v.cells)) (int_itself v.handle v.handle refl)
    (and_true (v.ts == v.ts) (same_bool v.gone v.gone && same_cells v.cells v.cells) (same_is v.ts)
    (and_true (same_bool v.gone v.gone) (same_cells v.cells v.cells) (bool_itself v.gone) (cells_itself v.cells)))

pub tells_it : (o : Option Version) (v : Version) → Tells (is_it o v) (o ≡ Some v)
tells_it None v = record { yes = λ e. absurd (true≢false (sym e)); holds = λ e. cc e }
tells_it (Some w) v = record { yes = λ e. ap (λ x. Some x) (version_is w v e); holds = λ e. ap (same_version w) (sym (one w v e)) ∙ version_itself w }
  where
    one : (w v : Version) → Some w ≡ Some v → w ≡ v
    one w v e = cc e
