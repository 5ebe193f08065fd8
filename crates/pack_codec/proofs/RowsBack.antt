-- The lists of a pack are those of the versions that they are read as.
use Rattle.std.proofs.Common.{◌≡◌, ◌∙◌, refl, sym, ap, subst, ℕ, ℤ, pos, zero, suc, ◌+◌, ◌<◌, ◌≤◌, Bool, true, false, true≢false, cond, not, ◌&&◌, ◌||◌, nat_le, List, [], ◌∷◌, length, map, drop, get_or, Option, Some, None, arith, drop-cons}
use Rattle.std.specs.Prelude.{◌==◌, slice_get, unwrap_or}
use Rattle.std.specs.Option.{is_some}
use Rattle.std.specs.List.{list_all}
use Rattle.std.proofs.lemmas.List.{drop_all, drop_more}
use Rattle.column_block.specs.declared.cell.Cell.{Cell}
use Rattle.column_block.specs.declared.cell.Cell.TheVariants as cell
use Rattle.column_block.specs.declared.cell.Version.{Version}
use Rattle.column_codec.specs.declared.list.ColumnList.{ColumnList}
use Rattle.column_codec.specs.declared.list.ColumnList.TheVariants as list
use Rattle.column_codec.specs.Laws.{count_of}
use Rattle.pack_codec.specs.declared.heads.Heads.{Heads}
use Rattle.pack_codec.specs.declared.field.Field.{Field}
use Rattle.pack_codec.specs.declared.field.Field.TheVariants as field
use Rattle.pack_codec.specs.Rows.{is_mark, is_gone, int_cell, uint_cell, text_cell, cell_at, is_null, may_have, null_from, version_at, versions_from}
use Rattle.pack_codec.specs.Spelling.{cell_of, int_in, uint_in, text_in, mark_of, int_of, uint_of, text_of}

and_left : (a b : Bool) → (a && b) ≡ true → a ≡ true
and_left true b e = refl
and_left false b e = e

and_right : (a b : Bool) → (a && b) ≡ true → b ≡ true
and_right true b e = e
and_right false b e = absurd (true≢false (sym e))

-- ---- one value a version

module _ (heads : Heads) (lists : List ColumnList) where
  pub back : {V : Type 0} (f : Version → Option V) (values : List (Option V)) (i n : ℕ) → i + n ≡ length values → ((j : ℕ) → j < length values → f (version_at heads lists j) ≡ get_or values j None) → map f (versions_from heads lists i n) ≡ drop i values
  back f values i zero total each = sym (drop_all i values (omega (arith, total)))
  back f values i (suc n) total each =
      let lt : i < length values = omega (arith, total) in
      (λ k. each i lt k ∷ back f values (i + 1) n (omega (arith, total)) each k) ∙ sym (drop_more values i None lt)

  pub count_is : (i n : ℕ) → length (versions_from heads lists i n) ≡ n
  count_is i zero = refl
  count_is i (suc n) = ap suc (count_is (i + 1) n)

-- ---- handles, timestamps and marks

there : {V : Type 0} (values : List (Option V)) (j : ℕ) (d : V) → list_all is_some values ≡ true → j < length values → Some (unwrap_or (get_or values j None) d) ≡ get_or values j None
there [] j d all lt = absurd (omega arith)
there (Some x ∷ values) zero d all lt = refl
there (None ∷ values) zero d all lt = cc all
there (o ∷ values) (suc j) d all lt = there values j d (and_right (is_some o) (list_all is_some values) all) (omega arith)

pub handle_back : (heads : Heads) (lists : List ColumnList) (j : ℕ) → list_all is_some heads.handles ≡ true → j < length heads.handles → int_of field.Handle (version_at heads lists j) ≡ get_or heads.handles j None
handle_back heads lists j all lt = there heads.handles j (pos 0) all lt

pub stamp_back : (heads : Heads) (lists : List ColumnList) (j : ℕ) → list_all is_some heads.stamps ≡ true → j < length heads.stamps → uint_of field.Stamp (version_at heads lists j) ≡ get_or heads.stamps j None
stamp_back heads lists j all lt = there heads.stamps j 0 all lt

mark_is : (n : ℕ) → nat_le n 1 ≡ true → cond (n == 1) 1 0 ≡ n
mark_is n e = grind arith

marked : (marks : List (Option ℕ)) (j : ℕ) → list_all is_mark marks ≡ true → j < length marks → Some (cond (unwrap_or (get_or marks j None) 0 == 1) 1 0) ≡ get_or marks j None
marked [] j all lt = absurd (omega arith)
marked (Some n ∷ marks) zero all lt = ap (λ m. Some m) (mark_is n (and_left (nat_le n 1) (list_all is_mark marks) all))
marked (None ∷ marks) zero all lt = cc all
marked (o ∷ marks) (suc j) all lt = marked marks j (and_right (is_mark o) (list_all is_mark marks) all) (omega arith)

pub mark_back : (heads : Heads) (lists : List ColumnList) (j : ℕ) → list_all is_mark heads.marks ≡ true → j < length heads.marks → uint_of field.Mark (version_at heads lists j) ≡ get_or heads.marks j None
mark_back heads lists j all lt = marked heads.marks j all lt

-- ---- columns

null_at : (marks : List (Option ℕ)) (l : ColumnList) (i n j : ℕ) → null_from marks l i n ≡ true → i ≤ j → j < i + n → may_have marks l j ≡ true
null_at marks l i zero j e low high = absurd (omega (arith, low, high))
null_at marks l i (suc n) j e low high = by (i == j) refl (λ next. null_at marks l (i + 1) n j (and_right (may_have marks l i) (null_from marks l (i + 1) n) e) next (omega (arith, high)))
  where
    same : (i == j) ≡ true → i ≡ j
    same h = grind arith

    other : (i == j) ≡ false → i + 1 ≤ j
    other h = grind arith

    by : (b : Bool) → (i == j) ≡ b → (i + 1 ≤ j → may_have marks l j ≡ true) → may_have marks l j ≡ true
    by true is rest = subst (λ k. may_have marks l k ≡ true) (same is) (and_left (may_have marks l i) (null_from marks l (i + 1) n) e)
    by false is rest = rest (other is)

cell_there : (lists : List ColumnList) (k j : ℕ) (l : ColumnList) → slice_get lists k ≡ Some l → get_or (map (λ (x : ColumnList). cell_at x j) lists) k cell.Null ≡ cell_at l j
cell_there [] k j l e = cc e
cell_there (x ∷ lists) zero j l e = ap (λ (y : ColumnList). cell_at y j) (same x l e)
  where
    same : (x y : ColumnList) → Some x ≡ Some y → x ≡ y
    same x y h = cc h
cell_there (x ∷ lists) (suc k) j l e = cell_there lists k j l e

no_cell : (k : ℕ) → get_or [] k cell.Null ≡ cell.Null
no_cell zero = refl
no_cell (suc k) = refl

null_is : (c : Cell) → is_null c ≡ true → c ≡ cell.Null
null_is cell.Null e = refl
null_is (cell.Int n) e = cc e
null_is (cell.Uint n) e = cc e
null_is (cell.Bytes bytes) e = cc e

-- a version's cell in a column is the one of its list
pub cell_back : (heads : Heads) (lists : List ColumnList) (k j count : ℕ) (l : ColumnList) → slice_get lists k ≡ Some l → null_from heads.marks l 0 count ≡ true → j < count → cell_of k (version_at heads lists j) ≡ cell_at l j
cell_back heads lists k j count l at null lt = by (is_gone heads.marks j) (null_at heads.marks l 0 count j null (omega arith) (omega (arith, lt)))
  where
    by : (gone : Bool) → (not gone || is_null (cell_at l j)) ≡ true → get_or (cond gone [] (map (λ (x : ColumnList). cell_at x j) lists)) k cell.Null ≡ cell_at l j
    by true e = no_cell k ∙ sym (null_is (cell_at l j) e)
    by false e = cell_there lists k j l at

int_again : (o : Option ℤ) → int_in (int_cell o) ≡ o
int_again None = refl
int_again (Some n) = refl

uint_again : (o : Option ℕ) → uint_in (uint_cell o) ≡ o
uint_again None = refl
uint_again (Some n) = refl

text_again : (o : Option (List ℕ)) → text_in (text_cell o) ≡ o
text_again None = refl
text_again (Some n) = refl

module _ (heads : Heads) (lists : List ColumnList) (k count : ℕ) where
  pub ints_back : (values : List (Option ℤ)) → slice_get lists k ≡ Some (list.Int values) → null_from heads.marks (list.Int values) 0 count ≡ true → length values ≡ count → map (int_of (field.Cell k)) (versions_from heads lists 0 count) ≡ values
  ints_back values at null long = back heads lists (int_of (field.Cell k)) values 0 count (omega (arith, long)) (λ j lt. ap int_in (cell_back heads lists k j count (list.Int values) at null (omega (arith, lt, long))) ∙ int_again (get_or values j None))

  pub uints_back : (values : List (Option ℕ)) → slice_get lists k ≡ Some (list.Uint values) → null_from heads.marks (list.Uint values) 0 count ≡ true → length values ≡ count → map (uint_of (field.Cell k)) (versions_from heads lists 0 count) ≡ values
  uints_back values at null long = back heads lists (uint_of (field.Cell k)) values 0 count (omega (arith, long)) (λ j lt. ap uint_in (cell_back heads lists k j count (list.Uint values) at null (omega (arith, lt, long))) ∙ uint_again (get_or values j None))

  pub texts_back : (values : List (Option (List ℕ))) → slice_get lists k ≡ Some (list.Bytes values) → null_from heads.marks (list.Bytes values) 0 count ≡ true → length values ≡ count → map (text_of (field.Cell k)) (versions_from heads lists 0 count) ≡ values
  texts_back values at null long = back heads lists (text_of (field.Cell k)) values 0 count (omega (arith, long)) (λ j lt. ap text_in (cell_back heads lists k j count (list.Bytes values) at null (omega (arith, lt, long))) ∙ text_again (get_or values j None))
