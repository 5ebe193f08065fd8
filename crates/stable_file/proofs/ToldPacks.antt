-- What holds of the packs that a footer tells.
use Rattle.std.proofs.Common.{◌≡◌, ◌∙◌, refl, ap, subst, ℕ, zero, suc, ℤ, ◌+◌, ◌-◌, ◌^◌, ◌<◌, ◌≤◌, ◌≤ℤ◌, Bool, true, false, cond, ◌&&◌, nat_lt, nat_le, List, [], ◌∷◌, length, take, drop, Option, Some, None, Ok, Err, arith}
use Rattle.std.specs.Prelude.{◌==◌, int_lt, slice_get}
use Rattle.std.specs.Int.{w32, w64, cast_signed}
use Rattle.std.specs.List.{AllByRecursion}
use Rattle.std.proofs.lemmas.Bool.{ltb-true}
use Rattle.std.proofs.lemmas.Int.{ints}
use Rattle.flash_list.specs.Steps.{◌>>=◌}
use Rattle.flash_list.specs.Fields.{number_at}
use Rattle.column_block.specs.declared.column.Column.{Column}
use Rattle.pack_codec.specs.declared.fault.FormError.TheVariants.{Damaged}
use Rattle.pack_codec.specs.Faults.{here}
use Rattle.pack_codec.specs.Reading.{ended}
use Rattle.pack_codec.proofs.Binds.{bind_ok, if_ok, ok_is}
use Rattle.stable_file.specs.declared.pack.Pack.{Pack}
use Rattle.stable_file.specs.declared.pack.Head.{Head}
use Rattle.stable_file.specs.declared.pack.Before.{Before}
use Rattle.stable_file.specs.Steps.{one_for_each, so_many}
use Rattle.stable_file.specs.Footer.{u64_at, u32_at, handle_at, may_have_len, may_have_count, may_begin, sizes_at, handles_at, head_at, range_at, pack_entry_at, behind, first, entries_at, packs_at, footer_at, size_at, tail_at}
use Rattle.stable_file.specs.Opened.{IsPack, NeverFall, ArePacks}

-- ---- fields

u64_may : (end : ℕ) (may : ℕ → Bool) (bytes : List ℕ) (y : ℕ × List ℕ) → u64_at end may bytes ≡ Ok y → may y.0 ≡ true
unfolding u64_at
u64_may end may bytes y e =
    let a = bind_ok (number_at w64 (Damaged end) bytes) _ y e in
    let b = if_ok (may a.0.0) a.0 y (here end bytes) a.2 in
    subst (λ (n : ℕ × List ℕ). may n.0 ≡ true) b.1 b.0

u32_may : (end : ℕ) (may : ℕ → Bool) (bytes : List ℕ) (y : ℕ × List ℕ) → u32_at end may bytes ≡ Ok y → may y.0 ≡ true
unfolding u32_at
u32_may end may bytes y e =
    let a = bind_ok (number_at w32 (Damaged end) bytes) _ y e in
    let b = if_ok (may a.0.0) a.0 y (here end bytes) a.2 in
    subst (λ (n : ℕ × List ℕ). may n.0 ≡ true) b.1 b.0

handle_may : (end : ℕ) (may : ℤ → Bool) (bytes : List ℕ) (y : ℤ × List ℕ) → handle_at end may bytes ≡ Ok y → may y.0 ≡ true
unfolding handle_at
handle_may end may bytes y e =
    let a = bind_ok (number_at w64 (Damaged end) bytes) _ y e in
    let b = if_ok (may (cast_signed w64 a.0.0)) (cast_signed w64 a.0.0, a.0.1) y (here end bytes) a.2 in
    subst (λ (n : ℤ × List ℕ). may n.0 ≡ true) b.1 b.0

-- ---- an entry

-- what is known of the pack before an entry
record IsReady (before : Before) : Type 0 where
  place : 4 ≤ before.place
  reach : before.place < 2 ^ 64
  rows : (n : ℕ) → before.rows ≡ Some n → 0 < n

eq_is : (a b : ℕ) → (a == b) ≡ true → a ≡ b
eq_is a b e = grind arith

le_is : (a b : ℕ) → nat_le a b ≡ true → a ≤ b
le_is a b e = grind arith

len_le : (stop len : ℕ) (before : Before) → may_have_len stop before len ≡ true → len ≤ stop - before.place
len_le stop len before e = by (before.left == 1) e
  where
    by : (b : Bool) → cond b (len == stop - before.place) (nat_le len (stop - before.place)) ≡ true → len ≤ stop - before.place
    by true h = (let n = eq_is len (stop - before.place) h in omega (arith, n))
    by false h = le_is len (stop - before.place) h

and_left : (a b : Bool) → (a && b) ≡ true → a ≡ true
and_left true b e = refl
and_left false b e = e

count_some : (count : ℕ) (before : Before) → IsReady before → may_have_count before count ≡ true → 0 < count
count_some count before ready e = by before.rows refl e
  where
    by : (rows : Option ℕ) → before.rows ≡ rows → elim rows [ None ↦ nat_lt 0 count | Some n ↦ cond (before.left == 1) (nat_lt 0 count && nat_le count n) (count == n) ] ≡ true → 0 < count
    by None is h = ltb-true 0 count h
    by (Some n) is h = either (before.left == 1) h
      where
        either : (b : Bool) → cond b (nat_lt 0 count && nat_le count n) (count == n) ≡ true → 0 < count
        either true k = ltb-true 0 count (and_left (nat_lt 0 count) (nat_le count n) k)
        either false k = (let m = eq_is count n k in let r = ready.rows n is in omega (arith, m, r))

not_lt : (a b : ℤ) → cond (int_lt a b) false true ≡ true → b ≤ℤ a
not_lt a b e = by (int_lt a b) refl e
  where
    up : int_lt a b ≡ false → b ≤ℤ a
    up h = grind (arith, ints)

    by : (t : Bool) → int_lt a b ≡ t → cond t false true ≡ true → b ≤ℤ a
    by true is h = cc h
    by false is h = up is

-- the greatest handle before, if there is one, isn't above this one
abbrev IsFrom : Option ℤ → ℤ → Type 0
IsFrom None low = Unit {0}
IsFrom (Some high) low = high ≤ℤ low

from_may : (before : Before) (low : ℤ) → may_begin before low ≡ true → IsFrom before.high low
from_may before low e = by before.high e
  where
    by : (o : Option ℤ) → elim o [ None ↦ true | Some high ↦ cond (int_lt low high) false true ] ≡ true → IsFrom o low
    by None h = tt {0}
    by (Some high) h = not_lt low high h

record IsHead (before : Before) (head : Head) : Type 0 where
  place : 4 ≤ head.place
  reach : head.place + head.len < 2 ^ 64
  some : 0 < head.count
  order : head.low ≤ℤ head.high
  from : IsFrom before.high head.low

head_told : (end stop : ℕ) (before : Before) (bytes : List ℕ) (y : Head × List ℕ) → stop < 2 ^ 64 → IsReady before → head_at end stop before bytes ≡ Ok y → IsHead before y.0
unfolding head_at sizes_at handles_at
head_told end stop before bytes y within ready e =
    let s = bind_ok (sizes_at end stop before bytes) _ y e in
    let h = bind_ok (handles_at end before s.0.1) _ y s.2 in
    let p = bind_ok (u64_at end (λ n. n == before.place) bytes) _ s.0 s.1 in
    let l = bind_ok (u64_at end (may_have_len stop before) p.0.1) _ s.0 p.2 in
    let n = bind_ok (u32_at end (may_have_count before) l.0.1) _ s.0 l.2 in
    let a = bind_ok (handle_at end (may_begin before) s.0.1) _ h.0 h.1 in
    let b = bind_ok (handle_at end (λ high. cond (int_lt high a.0.0) false true) a.0.1) _ h.0 a.2 in
    let here : p.0.0 ≡ before.place = eq_is p.0.0 before.place (u64_may end (λ n. n == before.place) bytes p.0 p.1) in
    let most : l.0.0 ≤ stop - before.place = len_le stop l.0.0 before (u64_may end (may_have_len stop before) p.0.1 l.0 l.1) in
    let some : 0 < n.0.0 = count_some n.0.0 before ready (u32_may end (may_have_count before) l.0.1 n.0 n.1) in
    let from : IsFrom before.high a.0.0 = from_may before a.0.0 (handle_may end (may_begin before) s.0.1 a.0 a.1) in
    let order : a.0.0 ≤ℤ b.0.0 = not_lt b.0.0 a.0.0 (handle_may end (λ high. cond (int_lt high a.0.0) false true) a.0.1 b.0 b.1) in
    let low = ready.place in
    let reach = ready.reach in
    let head : IsHead before (record { place = p.0.0; len = l.0.0; count = n.0.0; low = a.0.0; high = b.0.0 }) = record {
      place = omega (arith, here, low);
      reach = omega (arith, here, most, reach, within);
      some = some;
      order = order;
      from = from;
    } in
    let sizes : (p.0.0, l.0.0, n.0.0) ≡ s.0.0 = ap (λ (x : (ℕ × ℕ × ℕ) × List ℕ). x.0) (ok_is _ s.0 n.2) in
    let handles : (a.0.0, b.0.0) ≡ h.0.0 = ap (λ (x : (ℤ × ℤ) × List ℕ). x.0) (ok_is _ h.0 b.2) in
    let both : IsHead before (record { place = s.0.0.0; len = s.0.0.1; count = s.0.0.2; low = h.0.0.0; high = h.0.0.1 }) =
    subst (λ (x : ℤ × ℤ). IsHead before (record { place = s.0.0.0; len = s.0.0.1; count = s.0.0.2; low = x.0; high = x.1 })) handles
    (subst (λ (x : ℕ × ℕ × ℕ). IsHead before (record { place = x.0; len = x.1; count = x.2; low = a.0.0; high = b.0.0 })) sizes head) in
    subst (λ (x : Head × List ℕ). IsHead before x.0) (ok_is _ y h.2) both

record IsEntry (before : Before) (pack : Pack) : Type 0 where
  is : IsPack pack
  from : IsFrom before.high pack.low

entry_told : (end stop : ℕ) (columns : List Column) (before : Before) (bytes : List ℕ) (y : Pack × List ℕ) → stop < 2 ^ 64 → IsReady before → pack_entry_at end stop columns before bytes ≡ Ok y → IsEntry before y.0
unfolding pack_entry_at
entry_told end stop columns before bytes y within ready e =
    let h = bind_ok (head_at end stop before bytes) _ y e in
    let r = bind_ok (one_for_each (range_at end) columns h.0.1) _ y h.2 in
    let head = head_told end stop before bytes h.0 within ready h.1 in
    subst (λ (x : Pack × List ℕ). IsEntry before x.0) (ok_is _ y r.2) (record { is = record { place = head.place; reach = head.reach; some = head.some; order = head.order }; from = head.from })

some_is : (a b : ℕ) → Some a ≡ Some b → a ≡ b
some_is a b e = cc e

ready_behind : (before : Before) (pack : Pack) → IsReady before → IsPack pack → IsReady (behind before pack)
ready_behind before pack ready is = record {
  place = (let p = is.place in omega (arith, p));
  reach = is.reach;
  rows = λ n e. by before.rows refl n e;
}
  where
    by : (rows : Option ℕ) → before.rows ≡ rows → (n : ℕ) → elim rows [ None ↦ Some pack.count | Some rows ↦ Some rows ] ≡ Some n → 0 < n
    by None there n e = subst (λ k. 0 < k) (some_is pack.count n e) is.some
    by (Some rows) there n e = ready.rows n (there ∙ e)

-- ---- all entries

abbrev BeginFrom : Option ℤ → List Pack → Type 0
BeginFrom high [] = Unit {0}
BeginFrom high (pack ∷ packs) = IsFrom high pack.low

record AreTold (count : ℕ) (before : Before) (packs : List Pack) : Type 0 where
  each : AllByRecursion IsPack packs
  order : NeverFall packs
  from : BeginFrom before.high packs
  many : length packs ≡ count

fall_on : (pack : Pack) (packs : List Pack) → BeginFrom (Some pack.high) packs → NeverFall packs → NeverFall (pack ∷ packs)
fall_on pack [] from order = tt {0}
fall_on pack (next ∷ packs) from order = (from, order)

entries_told : (end stop : ℕ) (columns : List Column) (count : ℕ) (before : Before) (bytes : List ℕ) (y : List Pack × List ℕ) → stop < 2 ^ 64 → IsReady before → so_many (pack_entry_at end stop columns) behind count before bytes ≡ Ok y → AreTold count before y.0
unfolding so_many
entries_told end stop columns zero before bytes y within ready e = subst (λ (x : List Pack × List ℕ). AreTold 0 before x.0) (ok_is _ y e) (record { each = tt {0}; order = tt {0}; from = tt {0}; many = refl })
entries_told end stop columns (suc count) before bytes y within ready e =
    let a = bind_ok (pack_entry_at end stop columns before bytes) _ y e in
    let b = bind_ok (so_many (pack_entry_at end stop columns) behind count (behind before a.0.0) a.0.1) _ y a.2 in
    let one = entry_told end stop columns before bytes a.0 within ready a.1 in
    let rest = entries_told end stop columns count (behind before a.0.0) a.0.1 b.0 within (ready_behind before a.0.0 ready one.is) b.1 in
    let all : AreTold (suc count) before (a.0.0 ∷ b.0.0) = record { each = (one.is, rest.each); order = fall_on a.0.0 b.0.0 rest.from rest.order; from = one.from; many = ap suc rest.many } in
    subst (λ (x : List Pack × List ℕ). AreTold (suc count) before x.0) (ok_is _ y b.2) all

first_ready : (packs : ℕ) → IsReady (first packs)
first_ready packs = record { place = omega arith; reach = omega arith; rows = λ n e. cc e }

packs_some : (end : ℕ) (bytes : List ℕ) (n : ℕ) → packs_at end bytes ≡ Ok n → 0 < n
unfolding packs_at
packs_some end bytes n e = (let a = bind_ok (number_at w64 (Damaged end) bytes) _ n e in by a.0.0 (a.0.0 == 0) refl a.2)
  where
    some : (m : ℕ) → (m == 0) ≡ false → 0 < m
    some m h = grind arith

    by : (m : ℕ) (b : Bool) → (m == 0) ≡ b → cond b (Err (here end bytes)) (Ok m) ≡ Ok n → 0 < n
    by m true is h = cc h
    by m false is h = subst (λ k. 0 < k) (ok_is m n h) (some m is)

-- the packs that a footer tells, which ends where 64 bits reach
pub footer_told : (end : ℕ) (columns : List Column) (footer : List ℕ) (packs : List Pack) → end < 2 ^ 64 → footer_at end columns footer ≡ Ok packs → ArePacks packs
unfolding footer_at entries_at
footer_told end columns footer packs within e =
    let n = bind_ok (packs_at end (drop (length footer - 8) footer)) _ packs e in
    let m = bind_ok (so_many (pack_entry_at (end - 8) (end - length footer) columns) behind n.0 (first n.0) (take (length footer - 8) footer)) _ packs n.2 in
    let d = bind_ok (ended (end - 8) m.0.1) _ packs m.2 in
    let told = entries_told (end - 8) (end - length footer) columns n.0 (first n.0) (take (length footer - 8) footer) m.0 (omega (arith, within)) (first_ready n.0) m.1 in
    let some : 0 < n.0 = packs_some end (drop (length footer - 8) footer) n.0 n.1 in
    let many = told.many in
    subst ArePacks (ok_is _ packs d.2) (record { some = omega (arith, many, some); each = told.each; order = told.order })

pub tail_told : (len : ℕ) (columns : List Column) (tail : List ℕ) (packs : List Pack) → len < 2 ^ 64 → tail_at len columns tail ≡ Ok packs → ArePacks packs
unfolding tail_at
tail_told len columns tail packs within e = by (nat_lt (length tail) 12) e
  where
    by : (b : Bool) → cond b (Err (Damaged len)) (size_at len (length (take (length tail - 12) tail)) (drop (length tail - 12) tail) >>= λ size. footer_at (len - 12) columns (drop (length (take (length tail - 12) tail) - size) (take (length tail - 12) tail))) ≡ Ok packs → ArePacks packs
    by true h = cc h
    by false h =
        let s = bind_ok (size_at len (length (take (length tail - 12) tail)) (drop (length tail - 12) tail)) _ packs h in
        footer_told (len - 12) columns (drop (length (take (length tail - 12) tail) - s.0) (take (length tail - 12) tail)) packs (omega (arith, within)) s.2

pub pack_is : (packs : List Pack) (k : ℕ) (pack : Pack) → ArePacks packs → slice_get packs k ≡ Some pack → IsPack pack
pack_is packs k pack are at = by packs k are.each at
  where
    same : (p q : Pack) → Some p ≡ Some q → p ≡ q
    same p q e = cc e

    by : (packs : List Pack) (k : ℕ) → AllByRecursion IsPack packs → slice_get packs k ≡ Some pack → IsPack pack
    by [] k each at = cc at
    by (p ∷ packs) zero each at = subst IsPack (same p pack at) each.0
    by (p ∷ packs) (suc k) each at = by packs k each.1 at
