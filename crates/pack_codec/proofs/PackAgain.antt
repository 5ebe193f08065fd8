-- Packs that are written are read again.
use Rattle.std.proofs.Common.{◌≡◌, ℕ, ℤ, zero, suc, ◌+◌, ◌<◌, ◌^◌, Bool, true, false, not, cond, eqb, List, [], ◌∷◌, ◌++◌, length, map, drop, get_or, Option, Some, None, Ok, refl, sym, ap, ◌∙◌, append_assoc, arith, pos}
use Rattle.std.specs.Prelude.{◌||◌, ◌&&◌, unwrap_or}
use Rattle.std.specs.Int.{w16, w64, to_be_bytes}
use Rattle.std.specs.Option.{is_some}
use Rattle.std.specs.List.{AllByRecursion, list_all, flat_map}
use Rattle.std.proofs.lemmas.List.{append-nil, length-map, get_or-map, get_or-drop, drop-drop, drop_more, drop_all}
use Rattle.column_block.specs.declared.column.Column.{Column}
use Rattle.column_block.specs.declared.column.Kind.{Kind}
use Rattle.column_block.specs.declared.column.Kind.TheVariants as column_kind
use Rattle.column_block.specs.declared.cell.Cell.{Cell}
use Rattle.column_block.specs.declared.cell.Cell.TheVariants as cell
use Rattle.column_block.specs.declared.cell.Version.{Version}
use Rattle.column_codec.specs.declared.list.ListKind.{ListKind}
use Rattle.column_codec.specs.declared.list.ListKind.TheVariants as kind
use Rattle.column_codec.specs.Laws.{kind_of, count_of}
use Rattle.pack_codec.specs.declared.fault.FormError.TheVariants.{Damaged}
use Rattle.pack_codec.specs.declared.field.Field.{Field}
use Rattle.pack_codec.specs.declared.field.Field.TheVariants as field
use Rattle.pack_codec.specs.declared.heads.Heads.{Heads}
use Rattle.pack_codec.specs.Rows.{handles_in, stamps_in, marks_in, is_mark, is_gone, int_cell, uint_cell, text_cell, cell_at, is_null, may_have, null_from, version_at, versions_from}
use Rattle.pack_codec.specs.Reading.{list_kind, column_in, heads_at, columns_at, width_at, ended, pack_at}
use Rattle.pack_codec.specs.Spelling.{cell_of, int_in, uint_in, text_in, int_of, uint_of, text_of, list_of, columns_of, sized, counts, heads, pack, ListFits, HeadsFit}
use Rattle.column_block.specs.Suiting.{IsOfKind, CellsFit, Suits}
use Rattle.pack_codec.specs.Laws.{PacksAreReadAgain}
use Rattle.pack_codec.proofs.FieldsAgain.{u16_again, u64_again, list_again}

-- ---- the lists of some versions

kind_is : (k : ListKind) (f : Field) (versions : List Version) → kind_of (list_of k f versions) ≡ k
kind_is kind.Int f versions = refl
kind_is kind.Uint f versions = refl
kind_is kind.Bytes f versions = refl

count_is : (k : ListKind) (f : Field) (versions : List Version) → count_of (list_of k f versions) ≡ length versions
count_is kind.Int f versions = length-map versions (int_of f)
count_is kind.Uint f versions = length-map versions (uint_of f)
count_is kind.Bytes f versions = length-map versions (text_of f)

handles_given : (versions : List Version) → list_all is_some (map (int_of field.Handle) versions) ≡ true
handles_given [] = refl
handles_given (v ∷ versions) = handles_given versions

stamps_given : (versions : List Version) → list_all is_some (map (uint_of field.Stamp) versions) ≡ true
stamps_given [] = refl
stamps_given (v ∷ versions) = stamps_given versions

mark_is : (b : Bool) → is_mark (Some (cond b 1 0)) ≡ true
mark_is true = refl
mark_is false = refl

marks_are : (versions : List Version) → list_all is_mark (map (uint_of field.Mark) versions) ≡ true
marks_are [] = refl
marks_are (v ∷ versions) = rw (mark_is v.gone) (marks_are versions)

heads_are : List Version → Heads
heads_are versions = record { handles = map (int_of field.Handle) versions; stamps = map (uint_of field.Stamp) versions; marks = map (uint_of field.Mark) versions }

-- ---- one row

shown : ListKind → Cell → Cell
shown kind.Int c = int_cell (int_in c)
shown kind.Uint c = uint_cell (uint_in c)
shown kind.Bytes c = text_cell (text_in c)

cell_again : (k : ListKind) (j : ℕ) (versions : List Version) (i : ℕ) (d : Version) → i < length versions → cell_at (list_of k (field.Cell j) versions) i ≡ shown k (cell_of j (get_or versions i d))
unfolding shown
cell_again kind.Int j versions i d lt = ap int_cell (get_or-map (int_of (field.Cell j)) versions i d None lt)
cell_again kind.Uint j versions i d lt = ap uint_cell (get_or-map (uint_of (field.Cell j)) versions i d None lt)
cell_again kind.Bytes j versions i d lt = ap text_cell (get_or-map (text_of (field.Cell j)) versions i d None lt)

shown_again : (k : Kind) (x : Cell) → IsOfKind k x → shown (list_kind k) x ≡ x
unfolding shown
shown_again column_kind.Int cell.Null h = refl
shown_again column_kind.Uint cell.Null h = refl
shown_again column_kind.Bytes cell.Null h = refl
shown_again column_kind.Int (cell.Int n) h = refl
shown_again column_kind.Uint (cell.Int n) h = absurd (cc h)
shown_again column_kind.Bytes (cell.Int n) h = absurd (cc h)
shown_again column_kind.Int (cell.Uint n) h = absurd (cc h)
shown_again column_kind.Uint (cell.Uint n) h = refl
shown_again column_kind.Bytes (cell.Uint n) h = absurd (cc h)
shown_again column_kind.Int (cell.Bytes n) h = absurd (cc h)
shown_again column_kind.Uint (cell.Bytes n) h = absurd (cc h)
shown_again column_kind.Bytes (cell.Bytes n) h = refl

null_shown : (k : ListKind) → is_null (shown k cell.Null) ≡ true
unfolding shown
null_shown kind.Int = refl
null_shown kind.Uint = refl
null_shown kind.Bytes = refl

mark_back : (b : Bool) → eqb (cond b 1 0) 1 ≡ b
mark_back true = refl
mark_back false = refl

gone_again : (versions : List Version) (i : ℕ) (d : Version) → i < length versions → is_gone (map (uint_of field.Mark) versions) i ≡ (get_or versions i d).gone
gone_again versions i d lt = ap (λ (m : Option ℕ). eqb (unwrap_or m 0) 1) (get_or-map (uint_of field.Mark) versions i d None lt) ∙ mark_back (get_or versions i d).gone

all_at : {X : Type 0} (P : X → Type 0) (xs : List X) (i : ℕ) (d : X) → i < length xs → AllByRecursion P xs → P (get_or xs i d)
all_at P [] i d lt all = absurd (omega arith)
all_at P (x ∷ xs) zero d lt all = all.0
all_at P (x ∷ xs) (suc i) d lt all = all_at P xs i d (omega arith) all.1

no_cell : (j : ℕ) → get_or [] j cell.Null ≡ cell.Null
no_cell zero = refl
no_cell (suc j) = refl

null_if_gone : (b : Bool) (columns : List Column) (k : ListKind) (j : ℕ) (cells : List Cell) → (elim b as (λ _. Type 0) [ true ↦ cells ≡ [] | false ↦ CellsFit columns cells ]) → (not b || is_null (shown k (get_or cells j cell.Null))) ≡ true
null_if_gone true columns k j cells h = ap (λ (cs : List Cell). is_null (shown k (get_or cs j cell.Null))) h ∙ ap (λ (c : Cell). is_null (shown k c)) (no_cell j) ∙ null_shown k
null_if_gone false columns k j cells h = refl

-- ---- a column

module _ (columns : List Column) (versions : List Version) (suits : AllByRecursion (Suits columns) versions) where
  may_again : (k : ListKind) (j i : ℕ) (d : Version) → i < length versions → may_have (map (uint_of field.Mark) versions) (list_of k (field.Cell j) versions) i ≡ true
  may_again k j i d lt =
      let v = get_or versions i d in
      ap (λ b. not b || is_null (cell_at (list_of k (field.Cell j) versions) i)) (gone_again versions i d lt) ∙ ap (λ (c : Cell). not v.gone || is_null c) (cell_again k j versions i d lt)
      ∙ null_if_gone v.gone columns k j v.cells (all_at (Suits columns) versions i d lt suits)

  null_again : (k : ListKind) (j i n : ℕ) (d : Version) → i + n ≡ length versions → null_from (map (uint_of field.Mark) versions) (list_of k (field.Cell j) versions) i n ≡ true
  null_again k j i zero d e = refl
  null_again k j i (suc n) d e =
      let first = may_again k j i d (omega arith) in
      let others = null_again k j (i + 1) n d (omega arith) in
      ap (λ b. b && null_from (map (uint_of field.Mark) versions) (list_of k (field.Cell j) versions) (i + 1) n) first ∙ others

some_version : List Version → Version
some_version versions = get_or versions 0 (record { handle = pos 0; ts = 0; gone = false; cells = [] })

columns_again : (all : List Column) (columns : List Column) (k end : ℕ) (versions : List Version) (rest : List ℕ) → AllByRecursion (Suits all) versions → AllByRecursion ListFits (columns_of columns k versions)
    → columns_at end (length versions) (map (uint_of field.Mark) versions) columns (flat_map sized (columns_of columns k versions) ++ rest) ≡ Ok (columns_of columns k versions, rest)
unfolding columns_at
columns_again all [] k end versions rest suits fits = refl
columns_again all (column ∷ columns) k end versions rest suits fits =
    let marks = map (uint_of field.Mark) versions in
    let l = list_of (list_kind column.kind) (field.Cell k) versions in
    let others = flat_map sized (columns_of columns (k + 1) versions) in
    let parts : (sized l ++ others) ++ rest ≡ sized l ++ (others ++ rest) = append_assoc (sized l) others rest in
    let null = null_again all versions suits (list_kind column.kind) k 0 (length versions) (some_version versions) (omega arith) in
    let allowed : column_in marks (length versions) (Some l) ≡ Some l = ap (λ b. cond b (Some l) None) null in
    let first = list_again (list_kind column.kind) (column_in marks (length versions)) (length versions) end l l (others ++ rest) fits.0 (kind_is (list_kind column.kind) (field.Cell k) versions) (count_is (list_kind column.kind) (field.Cell k) versions) allowed in
    rw (parts, first, columns_again all columns (k + 1) end versions rest suits fits.1) refl

-- ---- the heads

heads_again : (end : ℕ) (versions : List Version) (rest : List ℕ) → HeadsFit versions → heads_at end (length versions) (heads versions ++ rest) ≡ Ok (heads_are versions, rest)
unfolding heads_at heads heads_are
heads_again end versions rest fits =
    let n = length versions in
    let handles = list_of kind.Int field.Handle versions in
    let stamps = list_of kind.Uint field.Stamp versions in
    let marks = list_of kind.Uint field.Mark versions in
    let parts : (sized handles ++ (sized stamps ++ sized marks)) ++ rest ≡ sized handles ++ (sized stamps ++ (sized marks ++ rest)) = append_assoc (sized handles) (sized stamps ++ sized marks) rest ∙ ap (λ (xs : List ℕ). sized handles ++ xs) (append_assoc (sized stamps) (sized marks) rest) in
    let h : handles_in (Some handles) ≡ Some (map (int_of field.Handle) versions) = ap (λ b. cond b (Some (map (int_of field.Handle) versions)) None) (handles_given versions) in
    let s : stamps_in (Some stamps) ≡ Some (map (uint_of field.Stamp) versions) = ap (λ b. cond b (Some (map (uint_of field.Stamp) versions)) None) (stamps_given versions) in
    let m : marks_in (Some marks) ≡ Some (map (uint_of field.Mark) versions) = ap (λ b. cond b (Some (map (uint_of field.Mark) versions)) None) (marks_are versions) in
    let one = list_again kind.Int handles_in n end handles (map (int_of field.Handle) versions) (sized stamps ++ (sized marks ++ rest)) fits.handles refl (count_is kind.Int field.Handle versions) h in
    let two = list_again kind.Uint stamps_in n end stamps (map (uint_of field.Stamp) versions) (sized marks ++ rest) fits.stamps refl (count_is kind.Uint field.Stamp versions) s in
    let three = list_again kind.Uint marks_in n end marks (map (uint_of field.Mark) versions) rest fits.marks refl (count_is kind.Uint field.Mark versions) m in
    rw (parts, one, two, three) refl

-- ---- rows

cells_again : (columns : List Column) (k : ℕ) (versions : List Version) (i : ℕ) (d : Version) (cells : List Cell) → i < length versions → drop k (get_or versions i d).cells ≡ cells → CellsFit columns cells
    → map (λ l. cell_at l i) (columns_of columns k versions) ≡ cells
cells_again [] k versions i d [] lt e fits = refl
cells_again [] k versions i d (x ∷ cells) lt e fits = absurd fits
cells_again (column ∷ columns) k versions i d [] lt e fits = absurd fits
cells_again (column ∷ columns) k versions i d (x ∷ cells) lt e fits =
    let all = (get_or versions i d).cells in
    let sum : k + 0 ≡ k = omega arith in
    let here : get_or all k cell.Null ≡ x = ap (λ n. get_or all n cell.Null) (sym sum) ∙ sym (get_or-drop k all 0 cell.Null) ∙ ap (λ (cs : List Cell). get_or cs 0 cell.Null) e in
    let rest : drop (k + 1) all ≡ cells = sym (drop-drop 1 k all) ∙ ap (drop 1) e in
    let first : cell_at (list_of (list_kind column.kind) (field.Cell k) versions) i ≡ x = cell_again (list_kind column.kind) k versions i d lt ∙ ap (shown (list_kind column.kind)) here ∙ shown_again column.kind x fits.0 in
    ap (λ (c : Cell). c ∷ map (λ l. cell_at l i) (columns_of columns (k + 1) versions)) first ∙ ap (λ (cs : List Cell). x ∷ cs) (cells_again columns (k + 1) versions i d cells lt rest fits.1)

made : (v : Version) (h : ℤ) (t : ℕ) (g : Bool) (cs : List Cell) → h ≡ v.handle → t ≡ v.ts → g ≡ v.gone → cs ≡ v.cells → (let r : Version = record { handle = h; ts = t; gone = g; cells = cs } in r ≡ v)
made v h t g cs a b c e = rw (a, b, c, e) refl

by_gone : (b : Bool) (columns : List Column) (cells found : List Cell) → (elim b as (λ _. Type 0) [ true ↦ cells ≡ [] | false ↦ CellsFit columns cells ]) → (CellsFit columns cells → found ≡ cells) → cond b [] found ≡ cells
by_gone true columns cells found h same = sym h
by_gone false columns cells found h same = same h

row_again : (columns : List Column) (versions : List Version) (i : ℕ) (d : Version) → i < length versions → AllByRecursion (Suits columns) versions → version_at (heads_are versions) (columns_of columns 0 versions) i ≡ get_or versions i d
unfolding heads_are
row_again columns versions i d lt suits =
    let v = get_or versions i d in
    let handle : unwrap_or (get_or (map (int_of field.Handle) versions) i None) (pos 0) ≡ v.handle = ap (λ (o : Option ℤ). unwrap_or o (pos 0)) (get_or-map (int_of field.Handle) versions i d None lt) in
    let stamp : unwrap_or (get_or (map (uint_of field.Stamp) versions) i None) 0 ≡ v.ts = ap (λ (o : Option ℕ). unwrap_or o 0) (get_or-map (uint_of field.Stamp) versions i d None lt) in
    let gone = gone_again versions i d lt in
    let found = map (λ l. cell_at l i) (columns_of columns 0 versions) in
    let cells : cond (is_gone (map (uint_of field.Mark) versions) i) [] found ≡ v.cells = ap (λ b. cond b [] found) gone ∙ by_gone v.gone columns v.cells found (all_at (Suits columns) versions i d lt suits) (λ fits. cells_again columns 0 versions i d v.cells lt refl fits) in
    made v _ _ _ _ handle stamp gone cells

rows_again : (columns : List Column) (versions : List Version) (i n : ℕ) (d : Version) → i + n ≡ length versions → AllByRecursion (Suits columns) versions → versions_from (heads_are versions) (columns_of columns 0 versions) i n ≡ drop i versions
rows_again columns versions i zero d e suits = sym (drop_all i versions (omega arith))
rows_again columns versions i (suc n) d e suits =
    let lt : i < length versions = omega arith in
    ap (λ (v : Version). v ∷ versions_from (heads_are versions) (columns_of columns 0 versions) (i + 1) n) (row_again columns versions i d lt suits) ∙ ap (λ (vs : List Version). get_or versions i d ∷ vs) (rows_again columns versions (i + 1) n d (omega arith) suits)
    ∙ sym (drop_more versions i d lt)

width_again : (end n : ℕ) (rest : List ℕ) → n < 2 ^ 16 → width_at end n (to_be_bytes w16 n ++ rest) ≡ Ok rest
unfolding width_at
width_again end n rest lt =
    let same : eqb n n ≡ true = grind arith in
    rw (u16_again (Damaged end) n rest lt, same) refl

pub packs_again : PacksAreReadAgain
unfolding pack_at pack counts ended heads_are
packs_again columns versions end few suits fits =
    let n = length versions in
    let lists = flat_map sized (columns_of columns 0 versions) in
    let rest = heads versions ++ lists in
    let parts : (to_be_bytes w64 n ++ to_be_bytes w16 (length columns)) ++ rest ≡ to_be_bytes w64 n ++ (to_be_bytes w16 (length columns) ++ rest) = append_assoc (to_be_bytes w64 n) (to_be_bytes w16 (length columns)) rest in
    let last : columns_at end n (map (uint_of field.Mark) versions) columns lists ≡ Ok (columns_of columns 0 versions, []) = ap (columns_at end n (map (uint_of field.Mark) versions) columns) (sym (append-nil lists)) ∙ columns_again columns columns 0 end versions [] suits fits.columns in
    let rows : versions_from (heads_are versions) (columns_of columns 0 versions) 0 n ≡ versions = rows_again columns versions 0 n (some_version versions) (omega arith) suits in
    rw (parts, u64_again (Damaged end) n (to_be_bytes w16 (length columns) ++ rest) fits.count, width_again end (length columns) rest few, heads_again end versions lists fits.heads, last, rows) refl
