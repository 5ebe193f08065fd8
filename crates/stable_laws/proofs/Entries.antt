-- What a footer's entries say of places, lengths and ranges.
use Rattle.std.proofs.Common.{◌≡◌, ◌∙◌, refl, sym, ap, subst, ℕ, zero, suc, ℤ, ◌+◌, ◌-◌, ◌<◌, ◌≤◌, Bool, true, false, cond, ◌&&◌, nat_le, List, [], ◌∷◌, ◌++◌, length, Result, Ok, arith}
use Rattle.std.specs.Prelude.{◌==◌}
use Rattle.std.specs.Int.{w64}
use Rattle.std.specs.List.{AllByRecursion}
use Rattle.std.specs.Ordering.{int_eq}
use Rattle.std.proofs.lemmas.Int.{ints}
use Rattle.flash_list.specs.Fields.{number_at}
use Rattle.column_block.specs.declared.column.Column.{Column}
use Rattle.column_block.specs.declared.column.Kind.{Kind}
use Rattle.column_block.specs.declared.column.Kind.TheVariants as kind
use Rattle.column_block.specs.declared.column.MinMax.{MinMax}
use Rattle.column_block.specs.declared.column.MinMax.TheVariants.{Empty, Of}
use Rattle.column_block.specs.declared.cell.Version.{Version}
use Rattle.pack_codec.specs.declared.fault.FormError.TheVariants.{Damaged}
use Rattle.pack_codec.specs.Faults.{here}
use Rattle.pack_codec.specs.Spelling.{pack}
use Rattle.pack_codec.proofs.Binds.{bind_ok, if_ok, ok_is}
use Rattle.stable_file.specs.declared.pack.Pack.{Pack}
use Rattle.stable_file.specs.declared.pack.Head.{Head}
use Rattle.stable_file.specs.declared.pack.Before.{Before}
use Rattle.stable_file.specs.Building.{numbers, sizes, handle, handles, range, ranges, entry_of, entry}
use Rattle.stable_file.specs.Footer.{u64_at, u32_at, may_have_len, may_have_count, sizes_at, handles_at, head_at, range_at, pack_entry_at, behind}
use Rattle.stable_file.specs.Ranges.{range_with, same_range, are_ranges, handle_at, is_as_told}
use Rattle.stable_file.specs.Spelling.{range_spelled, ranges_spelled, entry_spelled}
use Rattle.stable_file.specs.Steps.{one_for_each, so_many}

eq_is : (a b : ℕ) → (a == b) ≡ true → a ≡ b
eq_is a b e = grind arith

pub and_left : (a b : Bool) → (a && b) ≡ true → a ≡ true
and_left true b e = refl
and_left false b e = e

pub and_right : (a b : Bool) → (a && b) ≡ true → b ≡ true
and_right true b e = e
and_right false b e = absurd (cc e)

-- ---- fields

u64_may : (end : ℕ) (may : ℕ → Bool) (bytes : List ℕ) (y : ℕ × List ℕ) → u64_at end may bytes ≡ Ok y → may y.0 ≡ true
unfolding u64_at
u64_may end may bytes y e =
    let a = bind_ok (number_at w64 (Damaged end) bytes) _ y e in
    let b = if_ok (may a.0.0) a.0 y (here end bytes) a.2 in
    subst (λ (n : ℕ × List ℕ). may n.0 ≡ true) b.1 b.0

-- the place and the length of an entry
abbrev Sized : ℕ → Before → ℕ → ℕ → Type 0
Sized stop before place len = (place ≡ before.place) × (may_have_len stop before len ≡ true)

head_sized : (end stop : ℕ) (before : Before) (bytes : List ℕ) (y : Head × List ℕ) → head_at end stop before bytes ≡ Ok y → Sized stop before y.0.place y.0.len
unfolding head_at sizes_at
head_sized end stop before bytes y e =
    let s = bind_ok (sizes_at end stop before bytes) _ y e in
    let h = bind_ok (handles_at end before s.0.1) _ y s.2 in
    let p = bind_ok (u64_at end (λ n. n == before.place) bytes) _ s.0 s.1 in
    let l = bind_ok (u64_at end (may_have_len stop before) p.0.1) _ s.0 p.2 in
    let n = bind_ok (u32_at end (may_have_count before) l.0.1) _ s.0 l.2 in
    let place : p.0.0 ≡ before.place = eq_is p.0.0 before.place (u64_may end (λ n. n == before.place) bytes p.0 p.1) in
    let sizes : (p.0.0, l.0.0, n.0.0) ≡ s.0.0 = ap (λ (x : (ℕ × ℕ × ℕ) × List ℕ). x.0) (ok_is _ s.0 n.2) in
    subst (λ (x : Head × List ℕ). Sized stop before x.0.place x.0.len) (ok_is _ y h.2)
    (subst (λ (x : ℕ × ℕ × ℕ). Sized stop before x.0 x.1) sizes (place, u64_may end (may_have_len stop before) p.0.1 l.0 l.1))

one_each : {C X E : Type 0} (read : C → List ℕ → Result (X × List ℕ) E) (cs : List C) (bytes : List ℕ) (y : List X × List ℕ) → one_for_each read cs bytes ≡ Ok y → length y.0 ≡ length cs
unfolding one_for_each
one_each read [] bytes y e = ap (λ p. length p.0) (sym (ok_is _ y e))
one_each read (c ∷ cs) bytes y e =
    let a = bind_ok (read c bytes) _ y e in
    let b = bind_ok (one_for_each read cs a.0.1) _ y a.2 in
    ap (λ p. length p.0) (sym (ok_is _ y b.2)) ∙ ap suc (one_each read cs a.0.1 b.0 b.1)

record IsSized (stop : ℕ) (columns : List Column) (before : Before) (p : Pack) : Type 0 where
  place : p.place ≡ before.place
  len : may_have_len stop before p.len ≡ true
  ranges : length p.ranges ≡ length columns

entry_sized : (end stop : ℕ) (columns : List Column) (before : Before) (bytes : List ℕ) (y : Pack × List ℕ) → pack_entry_at end stop columns before bytes ≡ Ok y → IsSized stop columns before y.0
unfolding pack_entry_at
entry_sized end stop columns before bytes y e =
    let h = bind_ok (head_at end stop before bytes) _ y e in
    let r = bind_ok (one_for_each (range_at end) columns h.0.1) _ y h.2 in
    let head = head_sized end stop before bytes h.0 h.1 in
    subst (λ (x : Pack × List ℕ). IsSized stop columns before x.0) (ok_is _ y r.2) (record { place = head.0; len = head.1; ranges = one_each (range_at end) columns h.0.1 r.0 r.1 })

-- ---- the packs lie one behind the other from a place on up to another

abbrev pub Lie : ℕ → ℕ → List Pack → Type 0
Lie stop place [] = place ≡ stop
Lie stop place (p ∷ packs) = (p.place ≡ place) × Lie stop (place + p.len) packs

abbrev pub HaveRanges : List Column → List Pack → Type 0
HaveRanges columns packs = AllByRecursion (λ (p : Pack). length p.ranges ≡ length columns) packs

last_len : (stop len : ℕ) (before : Before) → before.left ≡ 1 → may_have_len stop before len ≡ true → len ≡ stop - before.place
last_len stop len before left e = by (before.left == 1) (is before.left left) e
  where
    is : (n : ℕ) → n ≡ 1 → (n == 1) ≡ true
    is n h = grind arith

    by : (b : Bool) → b ≡ true → cond b (len == stop - before.place) (nat_le len (stop - before.place)) ≡ true → len ≡ stop - before.place
    by true h k = eq_is len (stop - before.place) k
    by false h k = absurd (cc h)

any_len : (stop len : ℕ) (before : Before) → may_have_len stop before len ≡ true → len ≤ stop - before.place
any_len stop len before e = by (before.left == 1) e
  where
    le_is : (a b : ℕ) → nat_le a b ≡ true → a ≤ b
    le_is a b h = grind arith

    by : (b : Bool) → cond b (len == stop - before.place) (nat_le len (stop - before.place)) ≡ true → len ≤ stop - before.place
    by true h = (let n = eq_is len (stop - before.place) h in omega (arith, n))
    by false h = le_is len (stop - before.place) h

pub entries_lie : (end stop : ℕ) (columns : List Column) (count : ℕ) (before : Before) (bytes : List ℕ) (y : List Pack × List ℕ) → 0 < count → before.left ≡ count → before.place ≤ stop → so_many (pack_entry_at end stop columns) behind count before bytes ≡ Ok y → Lie stop before.place y.0 × HaveRanges columns y.0
unfolding so_many
entries_lie end stop columns zero before bytes y some left within e = absurd (omega (arith, some))
entries_lie end stop columns (suc zero) before bytes y some left within e =
    let a = bind_ok (pack_entry_at end stop columns before bytes) _ y e in
    let f = entry_sized end stop columns before bytes a.0 a.1 in
    let len = last_len stop a.0.0.len before left f.len in
    let reach : before.place + a.0.0.len ≡ stop = omega (arith, len, within) in
    subst (λ (x : List Pack × List ℕ). Lie stop before.place x.0 × HaveRanges columns x.0) (ok_is _ y a.2) ((f.place, reach), (f.ranges, tt))
entries_lie end stop columns (suc (suc count)) before bytes y some left within e =
    let a = bind_ok (pack_entry_at end stop columns before bytes) _ y e in
    let b = bind_ok (so_many (pack_entry_at end stop columns) behind (suc count) (behind before a.0.0) a.0.1) _ y a.2 in
    let f = entry_sized end stop columns before bytes a.0 a.1 in
    let place = f.place in
    let len = any_len stop a.0.0.len before f.len in
    let reach : a.0.0.place + a.0.0.len ≤ stop = omega (arith, len, within, place) in
    let fewer : before.left - 1 ≡ suc count = omega (arith, left) in
    let rest = entries_lie end stop columns (suc count) (behind before a.0.0) a.0.1 b.0 (omega arith) fewer reach b.1 in
    subst (λ (x : List Pack × List ℕ). Lie stop before.place x.0 × HaveRanges columns x.0) (ok_is _ y b.2)
    ((place, subst (λ n. Lie stop (n + a.0.0.len) b.0.0) place rest.0), (f.ranges, rest.1))

-- ---- an entry is as it is written

int_is : (a b : ℤ) → int_eq a b ≡ true → a ≡ b
int_is a b e = grind (arith, ints)

same_is : (a b : MinMax) → same_range a b ≡ true → a ≡ b
same_is Empty Empty e = refl
same_is Empty (Of c d) e = cc e
same_is (Of a b) Empty e = cc e
same_is (Of a b) (Of c d) e = (λ i. Of (int_is a c (and_left (int_eq a c) (int_eq b d) e) i) (int_is b d (and_right (int_eq a c) (int_eq b d) e) i))

one_range : (kd : Kind) (r : MinMax) (k : ℕ) (part : List Version) → r ≡ range_with k Empty part → range_spelled kd r ≡ range kd k part
one_range kind.Bytes r k part e = refl
one_range kind.Int r k part e = ap numbers e
one_range kind.Uint r k part e = ap numbers e

ranges_are : (columns : List Column) (rs : List MinMax) (k : ℕ) (part : List Version) → length rs ≡ length columns → are_ranges rs k part ≡ true → ranges_spelled columns rs ≡ ranges columns k part
ranges_are [] [] k part many e = refl
ranges_are [] (r ∷ rs) k part many e = absurd (omega (arith, many))
ranges_are (column ∷ columns) [] k part many e = absurd (omega (arith, many))
ranges_are (column ∷ columns) (r ∷ rs) k part many e =
    let first = one_range column.kind r k part (same_is r (range_with k Empty part) (and_left (same_range r (range_with k Empty part)) (are_ranges rs (k + 1) part) e)) in
    let rest = ranges_are columns rs (k + 1) part (omega (arith, many)) (and_right (same_range r (range_with k Empty part)) (are_ranges rs (k + 1) part) e) in
    (λ i. first i ++ rest i)

pub entry_is : (columns : List Column) (place : ℕ) (p : Pack) (part : List Version) → p.place ≡ place → p.len ≡ length (pack columns part) → length p.ranges ≡ length columns → is_as_told p part ≡ true → entry_spelled columns p ≡ entry columns place part
unfolding entry_of handles
entry_is columns place p part at long many told =
    let count : length part ≡ p.count = eq_is (length part) p.count (and_left (length part == p.count) _ told) in
    let t = and_right (length part == p.count) _ told in
    let low : handle_at part 0 ≡ p.low = int_is (handle_at part 0) p.low (and_left (int_eq (handle_at part 0) p.low) _ t) in
    let u = and_right (int_eq (handle_at part 0) p.low) _ t in
    let high : handle_at part (length part - 1) ≡ p.high = int_is _ p.high (and_left (int_eq (handle_at part (length part - 1)) p.high) _ u) in
    let rs = ranges_are columns p.ranges 0 part many (and_right (int_eq (handle_at part (length part - 1)) p.high) _ u) in
    (λ i. sizes (at i) (long i) (sym count i) ++ ((handle (sym low i) ++ handle (sym high i)) ++ rs i))
