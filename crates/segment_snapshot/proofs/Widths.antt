-- A footer tells of each column, and so of the column of a bound.
use Rattle.std.proofs.Common.{◌≡◌, ◌∙◌, refl, sym, ap, subst, ℕ, zero, suc, ◌-◌, ◌<◌, Bool, true, false, cond, nat_lt, List, [], ◌∷◌, Option, Some, None, length, take, drop, Result, Ok, Err, arith}
use Rattle.std.specs.List.{AllByRecursion}
use Rattle.flash_list.specs.Steps.{◌>>=◌}
use Rattle.column_block.specs.declared.column.Bound.{Bound}
use Rattle.column_block.specs.declared.column.Column.{Column}
use Rattle.column_block.specs.declared.column.MinMax.{MinMax}
use Rattle.delta_layer.specs.declared.view.SegmentView.{SegmentView}
use Rattle.pack_codec.specs.declared.fault.FormError.{FormError}
use Rattle.pack_codec.specs.declared.fault.FormError.TheVariants.{Damaged}
use Rattle.pack_codec.specs.Reading.{ended}
use Rattle.pack_codec.proofs.Binds.{bind_ok, ok_is}
use Rattle.stable_file.specs.declared.pack.Before.{Before}
use Rattle.stable_file.specs.declared.pack.Pack.{Pack}
use Rattle.stable_file.specs.Footer.{behind, entries_at, first, footer_at, head_at, pack_entry_at, packs_at, range_at, size_at, tail_at}
use Rattle.stable_file.specs.Steps.{one_for_each, so_many}
use Rattle.learner_read.specs.Laws.{TellsColumn}
use Rattle.learner_read.specs.Packs.{packs_in}
use Rattle.segment_snapshot.specs.Rights.{TellBound, TellColumns}

ranges_width : (end : ℕ) (columns : List Column) (bytes : List ℕ) (y : List MinMax × List ℕ) → one_for_each (range_at end) columns bytes ≡ Ok y → length y.0 ≡ length columns
unfolding one_for_each
ranges_width end [] bytes y e = ap (λ (p : List MinMax × List ℕ). length p.0) (sym (ok_is _ y e))
ranges_width end (column ∷ columns) bytes y e =
    let a = bind_ok (range_at end column bytes) _ y e in
    let b = bind_ok (one_for_each (range_at end) columns a.0.1) _ y a.2 in
    ap (λ (p : List MinMax × List ℕ). length p.0) (sym (ok_is _ y b.2)) ∙ ap suc (ranges_width end columns a.0.1 b.0 b.1)

entry_width : (end stop : ℕ) (columns : List Column) (before : Before) (bytes : List ℕ) (y : Pack × List ℕ) → pack_entry_at end stop columns before bytes ≡ Ok y → length y.0.ranges ≡ length columns
unfolding pack_entry_at
entry_width end stop columns before bytes y e =
    let h = bind_ok (head_at end stop before bytes) _ y e in
    let r = bind_ok (one_for_each (range_at end) columns h.0.1) _ y h.2 in
    ap (λ (p : Pack × List ℕ). length p.0.ranges) (sym (ok_is _ y r.2)) ∙ ranges_width end columns h.0.1 r.0 r.1

entries_width : (end stop : ℕ) (columns : List Column) (count : ℕ) (before : Before) (bytes : List ℕ) (y : List Pack × List ℕ) → so_many (pack_entry_at end stop columns) behind count before bytes ≡ Ok y → TellColumns (length columns) y.0
unfolding so_many
entries_width end stop columns zero before bytes y e = subst (λ (p : List Pack × List ℕ). TellColumns (length columns) p.0) (ok_is _ y e) tt
entries_width end stop columns (suc count) before bytes y e =
    let a = bind_ok (pack_entry_at end stop columns before bytes) _ y e in
    let b = bind_ok (so_many (pack_entry_at end stop columns) behind count (behind before a.0.0) a.0.1) _ y a.2 in
    subst (λ (p : List Pack × List ℕ). TellColumns (length columns) p.0) (ok_is _ y b.2) (entry_width end stop columns before bytes a.0 a.1, entries_width end stop columns count (behind before a.0.0) a.0.1 b.0 b.1)

footer_width : (end : ℕ) (columns : List Column) (footer : List ℕ) (packs : List Pack) → footer_at end columns footer ≡ Ok packs → TellColumns (length columns) packs
unfolding footer_at entries_at
footer_width end columns footer packs e =
    let front = take (length footer - 8) footer in
    let n = bind_ok (packs_at end (drop (length footer - 8) footer)) _ packs e in
    let m = bind_ok (so_many (pack_entry_at (end - 8) (end - length footer) columns) behind n.0 (first n.0) front) _ packs n.2 in
    let d = bind_ok (ended (end - 8) m.0.1) _ packs m.2 in
    subst (TellColumns (length columns)) (ok_is _ packs d.2) (entries_width (end - 8) (end - length footer) columns n.0 (first n.0) front m.0 m.1)

pub tail_width : (len : ℕ) (columns : List Column) (tail : List ℕ) (packs : List Pack) → tail_at len columns tail ≡ Ok packs → TellColumns (length columns) packs
unfolding tail_at
tail_width len columns tail packs e = by (nat_lt (length tail) 12) e
  where
    front : List ℕ
    front = take (length tail - 12) tail

    whole : Result (List Pack) FormError
    whole = size_at len (length front) (drop (length tail - 12) tail) >>= λ size. footer_at (len - 12) columns (drop (length front - size) front)

    by : (b : Bool) → cond b (Err (Damaged len)) whole ≡ Ok packs → TellColumns (length columns) packs
    by true h = cc h
    by false h = (let s = bind_ok (size_at len (length front) (drop (length tail - 12) tail)) _ packs h in footer_width (len - 12) columns (drop (length front - s.0) front) packs s.2)

-- ---- a bound

no_bound : (packs : List Pack) → AllByRecursion (TellsColumn None) packs
no_bound [] = tt
no_bound (pack ∷ packs) = (tt, no_bound packs)

column_told : (bound : Bound) (n : ℕ) → bound.column < n → (packs : List Pack) → TellColumns n packs → AllByRecursion (TellsColumn (Some bound)) packs
column_told bound n less [] all = tt
column_told bound n less (pack ∷ packs) all = (let wide : length pack.ranges ≡ n = all.0 in omega (arith, wide, less), column_told bound n less packs all.1)

module _ {G : Type 0} where
  pub none_told : (pieces : List (SegmentView G)) → TellBound None pieces
  none_told [] = tt
  none_told (piece ∷ pieces) = (no_bound (packs_in piece.stable), none_told pieces)

  pub bound_told : (bound : Bound) (n : ℕ) (pieces : List (SegmentView G)) → bound.column < n → AllByRecursion (λ (piece : SegmentView G). TellColumns n (packs_in piece.stable)) pieces → TellBound (Some bound) pieces
  bound_told bound n [] less all = tt
  bound_told bound n (piece ∷ pieces) less all = (column_told bound n less (packs_in piece.stable) all.0, bound_told bound n pieces less all.1)
