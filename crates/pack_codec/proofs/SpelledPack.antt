-- A pack that is read is the one spelling of its versions.
use Rattle.std.proofs.Common.{◌≡◌, ◌∙◌, refl, sym, ap, subst, ℕ, ℤ, zero, suc, ◌+◌, Bool, true, false, cond, List, [], ◌∷◌, ◌++◌, append_assoc, append-nil, length, Option, Some, None, Result, Ok, Err, arith}
use Rattle.std.specs.Prelude.{◌==◌, slice_get}
use Rattle.std.specs.Option.{is_some}
use Rattle.std.specs.Int.{w16, w64, to_be_bytes}
use Rattle.std.specs.List.{flat_map, list_all}
use Rattle.flash_list.specs.Steps.{◌>>=◌}
use Rattle.flash_list.specs.Fields.{number_at}
use Rattle.column_block.specs.declared.column.Column.{Column}
use Rattle.column_block.specs.declared.cell.Version.{Version}
use Rattle.column_codec.specs.declared.list.ListKind.{ListKind}
use Rattle.column_codec.specs.declared.list.ListKind.TheVariants as kind
use Rattle.column_codec.specs.declared.list.ColumnList.{ColumnList}
use Rattle.column_codec.specs.declared.list.ColumnList.TheVariants as list
use Rattle.column_codec.specs.Laws.{AreBytes, kind_of, count_of}
use Rattle.pack_codec.specs.declared.fault.FormError.TheVariants.{Damaged}
use Rattle.pack_codec.specs.declared.field.Field.TheVariants as field
use Rattle.pack_codec.specs.declared.heads.Heads.{Heads}
use Rattle.pack_codec.specs.Faults.{here}
use Rattle.pack_codec.specs.Laws.{PacksHaveOneSpelling}
use Rattle.pack_codec.specs.Reading.{list_behind, heads_at, list_kind, column_in, columns_at, width_at, ended, pack_at}
use Rattle.pack_codec.specs.Rows.{handles_in, stamps_in, marks_in, is_mark, null_from, versions_from}
use Rattle.pack_codec.specs.Spelling.{list_of, columns_of, sized, counts, heads, pack, int_of, uint_of}
use Rattle.pack_codec.proofs.Binds.{bind_ok, if_ok, ok_is}
use Rattle.pack_codec.proofs.RowsBack.{back, count_is, handle_back, stamp_back, mark_back, ints_back, uints_back, texts_back}
use Rattle.pack_codec.proofs.SpelledFields.{behind_are, u64_spelled, u16_spelled, IsListHere, list_spelled}

-- ---- which lists may stand where

guarded : {X : Type 0} (b : Bool) (x y : X) → cond b (Some x) None ≡ Some y → (b ≡ true) × (x ≡ y)
guarded true x y e = (refl, same x y e)
  where
    same : {X : Type 0} (x y : X) → Some x ≡ Some y → x ≡ y
    same x y h = cc h
guarded false x y e = cc e

handles_are : (l : ColumnList) (values : List (Option ℤ)) → handles_in (Some l) ≡ Some values → (list_all is_some values ≡ true) × (l ≡ list.Int values)
handles_are (list.Int all) values e = (let g = guarded (list_all is_some all) all values e in (subst (λ vs. list_all is_some vs ≡ true) g.1 g.0, ap (λ vs. list.Int vs) g.1))
handles_are (list.Uint all) values e = cc e
handles_are (list.Bytes all) values e = cc e

stamps_are : (l : ColumnList) (values : List (Option ℕ)) → stamps_in (Some l) ≡ Some values → (list_all is_some values ≡ true) × (l ≡ list.Uint values)
stamps_are (list.Int all) values e = cc e
stamps_are (list.Uint all) values e = (let g = guarded (list_all is_some all) all values e in (subst (λ vs. list_all is_some vs ≡ true) g.1 g.0, ap (λ vs. list.Uint vs) g.1))
stamps_are (list.Bytes all) values e = cc e

marks_are : (l : ColumnList) (values : List (Option ℕ)) → marks_in (Some l) ≡ Some values → (list_all is_mark values ≡ true) × (l ≡ list.Uint values)
marks_are (list.Int all) values e = cc e
marks_are (list.Uint all) values e = (let g = guarded (list_all is_mark all) all values e in (subst (λ vs. list_all is_mark vs ≡ true) g.1 g.0, ap (λ vs. list.Uint vs) g.1))
marks_are (list.Bytes all) values e = cc e

-- ---- the heads

record AreHeads (count : ℕ) (bytes : List ℕ) (y : Heads × List ℕ) : Type 0 where
  handles : list_all is_some y.0.handles ≡ true
  stamps : list_all is_some y.0.stamps ≡ true
  marks : list_all is_mark y.0.marks ≡ true
  handles_long : length y.0.handles ≡ count
  stamps_long : length y.0.stamps ≡ count
  marks_long : length y.0.marks ≡ count
  is : bytes ≡ sized (list.Int y.0.handles) ++ (sized (list.Uint y.0.stamps) ++ (sized (list.Uint y.0.marks) ++ y.1))
  rest_are : AreBytes y.1

heads_spelled : (end count : ℕ) (bytes : List ℕ) (y : Heads × List ℕ) → AreBytes bytes → heads_at end count bytes ≡ Ok y → AreHeads count bytes y
unfolding heads_at
heads_spelled end count bytes y all e =
    let a = bind_ok (list_behind kind.Int handles_in count end bytes) _ y e in
    let b = bind_ok (list_behind kind.Uint stamps_in count end a.0.1) _ y a.2 in
    let c = bind_ok (list_behind kind.Uint marks_in count end b.0.1) _ y b.2 in
    let p = list_spelled kind.Int handles_in count end bytes a.0 refl all a.1 in
    let q = list_spelled kind.Uint stamps_in count end a.0.1 b.0 refl p.rest_are b.1 in
    let r = list_spelled kind.Uint marks_in count end b.0.1 c.0 refl q.rest_are c.1 in
    let h = handles_are p.l a.0.0 p.allowed in
    let s = stamps_are q.l b.0.0 q.allowed in
    let m = marks_are r.l c.0.0 r.allowed in
    let whole : bytes ≡ sized (list.Int a.0.0) ++ (sized (list.Uint b.0.0) ++ (sized (list.Uint c.0.0) ++ c.0.1)) =
    p.is ∙ (λ i. sized (h.1 i) ++ q.is i) ∙ (λ i. sized (list.Int a.0.0) ++ (sized (s.1 i) ++ r.is i)) ∙ (λ i. sized (list.Int a.0.0) ++ (sized (list.Uint b.0.0) ++ (sized (m.1 i) ++ c.0.1))) in
    subst (λ (x : Heads × List ℕ). AreHeads count bytes x) (ok_is _ y c.2) (record {
      handles = h.0;
      stamps = s.0;
      marks = m.0;
      handles_long = sym (ap count_of h.1) ∙ p.is_count;
      stamps_long = sym (ap count_of s.1) ∙ q.is_count;
      marks_long = sym (ap count_of m.1) ∙ r.is_count;
      is = whole;
      rest_are = r.rest_are;
    })

-- ---- the columns

column_are : (marks : List (Option ℕ)) (count : ℕ) (l x : ColumnList) → column_in marks count (Some l) ≡ Some x → (null_from marks x 0 count ≡ true) × (l ≡ x)
column_are marks count l x e = (let g = guarded (null_from marks l 0 count) l x e in (subst (λ z. null_from marks z 0 count ≡ true) g.1 g.0, g.1))

module _ (from : Heads) (all : List ColumnList) (end count : ℕ) where
  abbrev versions : List Version
  versions = versions_from from all 0 count

  list_back : (k : ℕ) (l : ColumnList) → slice_get all k ≡ Some l → null_from from.marks l 0 count ≡ true → count_of l ≡ count → list_of (kind_of l) (field.Cell k) versions ≡ l
  list_back k (list.Int values) at null long = ap (λ vs. list.Int vs) (ints_back from all k count values at null long)
  list_back k (list.Uint values) at null long = ap (λ vs. list.Uint vs) (uints_back from all k count values at null long)
  list_back k (list.Bytes values) at null long = ap (λ vs. list.Bytes vs) (texts_back from all k count values at null long)

  columns_spelled : (columns : List Column) (k : ℕ) (bytes : List ℕ) (y : List ColumnList × List ℕ) → AreBytes bytes → columns_at end count from.marks columns bytes ≡ Ok y → ((j : ℕ) → slice_get all (k + j) ≡ slice_get y.0 j) → bytes ≡ flat_map sized (columns_of columns k versions) ++ y.1
  unfolding columns_at
  columns_spelled [] k bytes y are e at = ap (λ (p : List ColumnList × List ℕ). p.1) (ok_is _ y e)
  columns_spelled (column ∷ columns) k bytes y are e at =
      let a = bind_ok (list_behind (list_kind column.kind) (column_in from.marks count) count end bytes) _ y e in
      let b = bind_ok (columns_at end count from.marks columns a.0.1) _ y a.2 in
      let p = list_spelled (list_kind column.kind) (column_in from.marks count) count end bytes a.0 refl are a.1 in
      let c = column_are from.marks count p.l a.0.0 p.allowed in
      let same : (a.0.0 ∷ b.0.0, b.0.1) ≡ y = ok_is _ y b.2 in
      let here : slice_get all k ≡ Some a.0.0 = ap (slice_get all) (plus_zero k) ∙ at 0 ∙ sym (ap (λ (x : List ColumnList × List ℕ). slice_get x.0 0) same) in
      let first : list_of (list_kind column.kind) (field.Cell k) versions ≡ p.l =
      ap (λ kd. list_of kd (field.Cell k) versions) (sym p.is_kind) ∙ list_back k p.l (here ∙ ap (λ l. Some l) (sym c.1)) (subst (λ l. null_from from.marks l 0 count ≡ true) (sym c.1) c.0) p.is_count in
      let rest = columns_spelled columns (k + 1) a.0.1 b.0 p.rest_are b.1 (λ j. ap (slice_get all) (plus_suc k j) ∙ at (suc j) ∙ sym (ap (λ (x : List ColumnList × List ℕ). slice_get x.0 (suc j)) same)) in
      p.is
      ∙ (λ i. sized (sym first i) ++ rest i)
      ∙ sym (append_assoc (sized (list_of (list_kind column.kind) (field.Cell k) versions)) (flat_map sized (columns_of columns (k + 1) versions)) b.0.1)
      ∙ ap (λ (x : List ColumnList × List ℕ). flat_map sized (columns_of (column ∷ columns) k versions) ++ x.1) same
    where
      plus_zero : (k : ℕ) → k ≡ k + 0
      plus_zero k = omega arith

      plus_suc : (k j : ℕ) → k + 1 + j ≡ k + suc j
      plus_suc k j = omega arith

-- ---- the pack

width_spelled : (end width : ℕ) (bytes rest : List ℕ) → AreBytes bytes → width_at end width bytes ≡ Ok rest → bytes ≡ to_be_bytes w16 width ++ rest
unfolding width_at
width_spelled end width bytes rest all e =
    let a = bind_ok (number_at w16 (Damaged end) bytes) _ rest e in
    let b = if_ok (a.0.0 == width) a.0.1 rest (here end bytes) a.2 in
    u16_spelled (Damaged end) bytes a.0 a.1 all ∙ (λ i. to_be_bytes w16 (same a.0.0 width b.0 i) ++ b.1 i)
  where
    same : (m n : ℕ) → (m == n) ≡ true → m ≡ n
    same m n h = grind arith

ended_is : (end : ℕ) (bytes : List ℕ) (y : Unit {0}) → ended end bytes ≡ Ok y → bytes ≡ []
unfolding ended
ended_is end [] y e = refl
ended_is end (b ∷ bytes) y e = cc e

zero_plus : (j : ℕ) → 0 + j ≡ j
zero_plus j = omega arith

arranged : (a b h s m f : List ℕ) → a ++ (b ++ (h ++ (s ++ (m ++ f)))) ≡ (a ++ b) ++ ((h ++ (s ++ m)) ++ f)
arranged a b h s m f = sym (append_assoc a b (h ++ (s ++ (m ++ f)))) ∙ ap (λ (xs : List ℕ). (a ++ b) ++ xs) (sym (append_assoc h (s ++ m) f ∙ ap (λ (xs : List ℕ). h ++ xs) (append_assoc s m f)))

pub pack_spelled : PacksHaveOneSpelling
unfolding pack_at pack counts heads
pack_spelled columns end bytes versions all e =
    let n = bind_ok (number_at w64 (Damaged end) bytes) _ versions e in
    let w = bind_ok (width_at end (length columns) n.0.1) _ versions n.2 in
    let h = bind_ok (heads_at end n.0.0 w.0) _ versions w.2 in
    let c = bind_ok (columns_at end n.0.0 h.0.0.marks columns h.0.1) _ versions h.2 in
    let d = bind_ok (ended end c.0.1) _ versions c.2 in
    let found : versions_from h.0.0 c.0.0 0 n.0.0 ≡ versions = ok_is _ versions d.2 in
    let a0 = u64_spelled (Damaged end) bytes n.0 n.1 all in
    let all1 : AreBytes n.0.1 = behind_are (to_be_bytes w64 n.0.0) n.0.1 (subst AreBytes a0 all) in
    let a1 = width_spelled end (length columns) n.0.1 w.0 all1 w.1 in
    let all2 : AreBytes w.0 = behind_are (to_be_bytes w16 (length columns)) w.0 (subst AreBytes a1 all1) in
    let hs = heads_spelled end n.0.0 w.0 h.0 all2 h.1 in
    let cs = columns_spelled h.0.0 c.0.0 end n.0.0 columns 0 h.0.1 c.0 hs.rest_are c.1 (λ j. ap (slice_get c.0.0) (zero_plus j)) in
    let vs = versions_from h.0.0 c.0.0 0 n.0.0 in
    let behind : h.0.1 ≡ flat_map sized (columns_of columns 0 vs) = cs ∙ ap (λ (xs : List ℕ). flat_map sized (columns_of columns 0 vs) ++ xs) (ended_is end c.0.1 d.0 d.1) ∙ append-nil (flat_map sized (columns_of columns 0 vs)) in
    let handles : list.Int h.0.0.handles ≡ list_of kind.Int field.Handle vs = sym (ap (λ l. list.Int l) (back h.0.0 c.0.0 (int_of field.Handle) h.0.0.handles 0 n.0.0 (zero_plus n.0.0 ∙ sym hs.handles_long) (λ j lt. handle_back h.0.0 c.0.0 j hs.handles lt))) in
    let stamps : list.Uint h.0.0.stamps ≡ list_of kind.Uint field.Stamp vs = sym (ap (λ l. list.Uint l) (back h.0.0 c.0.0 (uint_of field.Stamp) h.0.0.stamps 0 n.0.0 (zero_plus n.0.0 ∙ sym hs.stamps_long) (λ j lt. stamp_back h.0.0 c.0.0 j hs.stamps lt))) in
    let marks : list.Uint h.0.0.marks ≡ list_of kind.Uint field.Mark vs = sym (ap (λ l. list.Uint l) (back h.0.0 c.0.0 (uint_of field.Mark) h.0.0.marks 0 n.0.0 (zero_plus n.0.0 ∙ sym hs.marks_long) (λ j lt. mark_back h.0.0 c.0.0 j hs.marks lt))) in
    let count : n.0.0 ≡ length vs = sym (count_is h.0.0 c.0.0 0 n.0.0) in
    a0
    ∙ (λ i. to_be_bytes w64 (count i) ++ a1 i)
    ∙ ap (λ (xs : List ℕ). to_be_bytes w64 (length vs) ++ (to_be_bytes w16 (length columns) ++ xs)) (hs.is ∙ (λ i. sized (handles i) ++ (sized (stamps i) ++ (sized (marks i) ++ behind i))))
    ∙ arranged (to_be_bytes w64 (length vs)) (to_be_bytes w16 (length columns)) (sized (list_of kind.Int field.Handle vs)) (sized (list_of kind.Uint field.Stamp vs)) (sized (list_of kind.Uint field.Mark vs)) (flat_map sized (columns_of columns 0 vs))
    ∙ ap (pack columns) found
