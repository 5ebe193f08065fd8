-- A footer that is read is the one spelling of the packs that it tells.
use Rattle.std.proofs.Common.{◌≡◌, ◌∙◌, refl, sym, ap, subst, ℕ, zero, suc, ℤ, ◌-◌, ◌^◌, ◌<◌, ◌≤◌, Bool, true, false, cond, nat_lt, List, [], ◌∷◌, ◌++◌, append_assoc, append-nil, length, length-append, length-drop, take, drop, Result, Ok, Err, arith}
use Rattle.std.specs.Prelude.{◌==◌, int_lt}
use Rattle.std.specs.Int.{w8, w32, w64, to_be_bytes, from_be_bytes, cast_signed, cast_unsigned}
use Rattle.std.specs.List.{flat_map}
use Rattle.std.proofs.lemmas.Int.{of_z-to_z}
use Rattle.std.proofs.lemmas.List.{take-append-drop}
use Rattle.std.proofs.Math.Facts.{sfits_to_z}
use Rattle.std.proofs.Math.Nat.{mod-eq_of_lt}
use Rattle.flash_list.specs.Steps.{◌>>=◌}
use Rattle.flash_list.specs.Fields.{number_at}
use Rattle.column_block.specs.declared.column.Column.{Column}
use Rattle.column_block.specs.declared.column.Kind.{Kind}
use Rattle.column_block.specs.declared.column.Kind.TheVariants as kind
use Rattle.column_block.specs.declared.column.MinMax.{MinMax}
use Rattle.column_block.specs.declared.column.MinMax.TheVariants.{Empty, Of}
use Rattle.column_codec.specs.Laws.{AreBytes}
use Rattle.pack_codec.specs.declared.fault.FormError.{FormError}
use Rattle.pack_codec.specs.declared.fault.FormError.TheVariants.{Damaged}
use Rattle.pack_codec.specs.Faults.{here}
use Rattle.pack_codec.specs.Reading.{ended}
use Rattle.pack_codec.proofs.Binds.{bind_ok, if_ok, ok_is}
use Rattle.pack_codec.proofs.SpelledFields.{behind_are, front_bytes, u64_spelled, u32_spelled}
use Rattle.stable_file.specs.declared.pack.Pack.{Pack}
use Rattle.stable_file.specs.declared.pack.Head.{Head}
use Rattle.stable_file.specs.declared.pack.Before.{Before}
use Rattle.stable_file.specs.Building.{bits, number, numbers, sizes, handle}
use Rattle.stable_file.specs.Footer.{u64_at, u32_at, handle_at, number_of, greatest_at, both_at, numbers_at, range_at, may_have_len, may_have_count, may_begin, sizes_at, handles_at, head_at, pack_entry_at, behind, first, entries_at, packs_at, footer_at}
use Rattle.stable_file.specs.Laws.{FootersHaveOneSpelling}
use Rattle.stable_file.specs.Spelling.{range_spelled, ranges_spelled, entry_spelled, footer_spelled}
use Rattle.stable_file.specs.Steps.{one_for_each, so_many}
use Rattle.stable_file.proofs.NumbersAgain.{bits_signed}

-- the bytes are what is written, and then the rest
record Spells (bytes written rest : List ℕ) : Type 0 where
  is : bytes ≡ written ++ rest
  rest_are : AreBytes rest

from : (bytes written rest : List ℕ) → AreBytes bytes → bytes ≡ written ++ rest → Spells bytes written rest
from bytes written rest all is = record { is = is; rest_are = behind_are written rest (subst AreBytes is all) }

chain : (a v b w c : List ℕ) → Spells a v b → Spells b w c → Spells a (v ++ w) c
chain a v b w c s t = record { is = s.is ∙ ap (λ (xs : List ℕ). v ++ xs) t.is ∙ sym (append_assoc v w c); rest_are = t.rest_are }

-- ---- fields

u64_read : (end : ℕ) (may : ℕ → Bool) (bytes : List ℕ) (y : ℕ × List ℕ) → AreBytes bytes → u64_at end may bytes ≡ Ok y → Spells bytes (to_be_bytes w64 y.0) y.1
unfolding u64_at
u64_read end may bytes y all e =
    let a = bind_ok (number_at w64 (Damaged end) bytes) _ y e in
    let b = if_ok (may a.0.0) a.0 y (here end bytes) a.2 in
    subst (λ (n : ℕ × List ℕ). Spells bytes (to_be_bytes w64 n.0) n.1) b.1 (from bytes (to_be_bytes w64 a.0.0) a.0.1 all (u64_spelled (Damaged end) bytes a.0 a.1 all))

u32_read : (end : ℕ) (may : ℕ → Bool) (bytes : List ℕ) (y : ℕ × List ℕ) → AreBytes bytes → u32_at end may bytes ≡ Ok y → Spells bytes (to_be_bytes w32 y.0) y.1
unfolding u32_at
u32_read end may bytes y all e =
    let a = bind_ok (number_at w32 (Damaged end) bytes) _ y e in
    let b = if_ok (may a.0.0) a.0 y (here end bytes) a.2 in
    subst (λ (n : ℕ × List ℕ). Spells bytes (to_be_bytes w32 n.0) n.1) b.1 (from bytes (to_be_bytes w32 a.0.0) a.0.1 all (u32_spelled (Damaged end) bytes a.0 a.1 all))

below_64 : (bs : List ℕ) → AreBytes bs → from_be_bytes w64 bs < 2 ^ 64
below_64 bs all = omega (arith, all 0, all 1, all 2, all 3, all 4, all 5, all 6, all 7)

number_below : (end : ℕ) (bytes : List ℕ) (y : ℕ × List ℕ) → AreBytes bytes → number_at w64 (Damaged end) bytes ≡ Ok y → y.0 < 2 ^ 64
unfolding number_at
number_below end bytes y all e = by (nat_lt (length bytes) 8) e
  where
    by : (b : Bool) → cond b (Err (Damaged end)) (Ok (from_be_bytes w64 (take 8 bytes), drop 8 bytes)) ≡ Ok y → y.0 < 2 ^ 64
    by true h = cc h
    by false h = subst (λ n. n < 2 ^ 64) (ap (λ (p : ℕ × List ℕ). p.0) (ok_is _ y h)) (below_64 (take 8 bytes) (front_bytes 8 bytes all))

handle_read : (end : ℕ) (may : ℤ → Bool) (bytes : List ℕ) (y : ℤ × List ℕ) → AreBytes bytes → handle_at end may bytes ≡ Ok y → Spells bytes (handle y.0) y.1
unfolding handle_at
handle_read end may bytes y all e =
    let a = bind_ok (number_at w64 (Damaged end) bytes) _ y e in
    let b = if_ok (may (cast_signed w64 a.0.0)) (cast_signed w64 a.0.0, a.0.1) y (here end bytes) a.2 in
    let back : cast_unsigned w64 (cast_signed w64 a.0.0) ≡ a.0.0 = of_z-to_z w64 a.0.0 (number_below end bytes a.0 all a.1) in
    let is : bytes ≡ handle (cast_signed w64 a.0.0) ++ a.0.1 = u64_spelled (Damaged end) bytes a.0 a.1 all ∙ ap (λ n. to_be_bytes w64 n ++ a.0.1) (sym back) in
    subst (λ (n : ℤ × List ℕ). Spells bytes (handle n.0) n.1) b.1 (from bytes (handle (cast_signed w64 a.0.0)) a.0.1 all is)

-- ---- ranges

-- kinds of numbers
abbrev IsNumbers : Kind → Type 0
IsNumbers kind.Bytes = ⊥
IsNumbers _ = Unit {0}

bits_back : (kd : Kind) (n : ℕ) → IsNumbers kd → n < 2 ^ 64 → bits (number_of kd n) ≡ n
unfolding bits
bits_back kind.Int n is fits = bits_signed (cast_signed w64 n) (sfits_to_z {w = w64} {n = n} (record { fits = fits })) ∙ of_z-to_z w64 n fits
bits_back kind.Uint n is fits = mod-eq_of_lt fits
bits_back kind.Bytes n is fits = absurd is

number_read : (kd : Kind) (end : ℕ) (bytes : List ℕ) (y : ℕ × List ℕ) → IsNumbers kd → AreBytes bytes → number_at w64 (Damaged end) bytes ≡ Ok y → Spells bytes (number (number_of kd y.0)) y.1
unfolding number
number_read kd end bytes y is all e = from bytes (to_be_bytes w64 (bits (number_of kd y.0))) y.1 all (u64_spelled (Damaged end) bytes y e all ∙ ap (λ n. to_be_bytes w64 n ++ y.1) (sym (bits_back kd y.0 is (number_below end bytes y all e))))

flag_read : (end : ℕ) (bytes : List ℕ) (y : ℕ × List ℕ) → AreBytes bytes → number_at w8 (Damaged end) bytes ≡ Ok y → Spells bytes (y.0 ∷ []) y.1
unfolding number_at
flag_read end [] y all e = cc e
flag_read end (b ∷ bytes) y all e = by (nat_lt (length (b ∷ bytes)) 1) refl e
  where
    by : (t : Bool) → nat_lt (length (b ∷ bytes)) 1 ≡ t → cond t (Err (Damaged end)) (Ok (from_be_bytes w8 (take 1 (b ∷ bytes)), drop 1 (b ∷ bytes))) ≡ Ok y → Spells (b ∷ bytes) (y.0 ∷ []) y.1
    by true lt h = cc h
    by false lt h = subst (λ (n : ℕ × List ℕ). Spells (b ∷ bytes) (n.0 ∷ []) n.1) (ok_is _ y h) (record { is = refl; rest_are = behind_are (b ∷ []) bytes all })

greatest_read : (kd : Kind) (end : ℕ) (least : ℤ) (bytes : List ℕ) (y : MinMax × List ℕ) → IsNumbers kd → AreBytes bytes → greatest_at kd end least bytes ≡ Ok y → (greatest : ℤ) × (y.0 ≡ Of least greatest) × Spells bytes (number greatest) y.1
unfolding greatest_at
greatest_read kd end least bytes y is all e =
    let a = bind_ok (number_at w64 (Damaged end) bytes) _ y e in
    by a.0 (number_read kd end bytes a.0 is all a.1) (int_lt (number_of kd a.0.0) least) a.2
  where
    by : (n : ℕ × List ℕ) → Spells bytes (number (number_of kd n.0)) n.1 → (t : Bool) → cond t (Err (here end bytes)) (Ok (Of least (number_of kd n.0), n.1)) ≡ Ok y → (greatest : ℤ) × (y.0 ≡ Of least greatest) × Spells bytes (number greatest) y.1
    by n s true h = cc h
    by n s false h = (number_of kd n.0, sym (ap (λ (p : MinMax × List ℕ). p.0) (ok_is _ y h)), subst (λ (xs : List ℕ). Spells bytes (number (number_of kd n.0)) xs) (ap (λ (p : MinMax × List ℕ). p.1) (ok_is _ y h)) s)

numbers_read : (kd : Kind) (end : ℕ) (bytes : List ℕ) (y : MinMax × List ℕ) → IsNumbers kd → AreBytes bytes → numbers_at kd end bytes ≡ Ok y → Spells bytes (numbers y.0) y.1
unfolding numbers_at both_at numbers
numbers_read kd end bytes y is all e =
    let a = bind_ok (number_at w8 (Damaged end) bytes) _ y e in
    by a.0 (flag_read end bytes a.0 all a.1) (nat_lt 1 a.0.0) (a.0.0 == 0) refl refl a.2
  where
    zero_is : (n : ℕ) → (n == 0) ≡ true → n ≡ 0
    zero_is n h = grind arith

    one_is : (n : ℕ) → nat_lt 1 n ≡ false → (n == 0) ≡ false → n ≡ 1
    one_is n g h = grind arith

    by : (n : ℕ × List ℕ) → Spells bytes (n.0 ∷ []) n.1 → (s t : Bool) → nat_lt 1 n.0 ≡ s → (n.0 == 0) ≡ t →
        cond s (Err (here end bytes)) (cond t (Ok (Empty, n.1)) (number_at w64 (Damaged end) n.1 >>= λ m. greatest_at kd end (number_of kd m.0) m.1)) ≡ Ok y → Spells bytes (numbers y.0) y.1
    by n f true t large none h = cc h
    by n f false true large none h =
        subst (λ (p : MinMax × List ℕ). Spells bytes (numbers p.0) p.1) (ok_is _ y h) (subst (λ m. Spells bytes (m ∷ []) n.1) (zero_is n.0 none) f)
    by n f false false large none h =
        let low = bind_ok (number_at w64 (Damaged end) n.1) _ y h in
        let first = number_read kd end n.1 low.0 is f.rest_are low.1 in
        let high = greatest_read kd end (number_of kd low.0.0) low.0.1 y is first.rest_are low.2 in
        subst (λ (r : MinMax). Spells bytes (numbers r) y.1) (sym high.1)
        (chain bytes (1 ∷ []) n.1 (number (number_of kd low.0.0) ++ number high.0) y.1 (subst (λ m. Spells bytes (m ∷ []) n.1) (one_is n.0 large none) f)
        (chain n.1 (number (number_of kd low.0.0)) low.0.1 (number high.0) y.1 first high.2))

range_read : (end : ℕ) (column : Column) (bytes : List ℕ) (y : MinMax × List ℕ) → AreBytes bytes → range_at end column bytes ≡ Ok y → Spells bytes (range_spelled column.kind y.0) y.1
range_read end column bytes y all e = by column.kind e
  where
    by : (kd : Kind) → elim kd as (λ _. Result (MinMax × List ℕ) FormError) [ kind.Bytes ↦ Ok (Empty, bytes) | kind.Int ↦ numbers_at kind.Int end bytes | kind.Uint ↦ numbers_at kind.Uint end bytes ] ≡ Ok y → Spells bytes (range_spelled kd y.0) y.1
    by kind.Bytes h = subst (λ (p : MinMax × List ℕ). Spells bytes [] p.1) (ok_is _ y h) (record { is = refl; rest_are = all })
    by kind.Int h = numbers_read kind.Int end bytes y (tt {0}) all h
    by kind.Uint h = numbers_read kind.Uint end bytes y (tt {0}) all h

ranges_read : (end : ℕ) (columns : List Column) (bytes : List ℕ) (y : List MinMax × List ℕ) → AreBytes bytes → one_for_each (range_at end) columns bytes ≡ Ok y → Spells bytes (ranges_spelled columns y.0) y.1
unfolding one_for_each
ranges_read end [] bytes y all e = subst (λ (p : List MinMax × List ℕ). Spells bytes [] p.1) (ok_is _ y e) (record { is = refl; rest_are = all })
ranges_read end (column ∷ columns) bytes y all e =
    let a = bind_ok (range_at end column bytes) _ y e in
    let b = bind_ok (one_for_each (range_at end) columns a.0.1) _ y a.2 in
    let one = range_read end column bytes a.0 all a.1 in
    let rest = ranges_read end columns a.0.1 b.0 one.rest_are b.1 in
    subst (λ (p : List MinMax × List ℕ). Spells bytes (ranges_spelled (column ∷ columns) p.0) p.1) (ok_is _ y b.2) (chain bytes (range_spelled column.kind a.0.0) a.0.1 (ranges_spelled columns b.0.0) b.0.1 one rest)

-- ---- entries

sizes_read : (end stop : ℕ) (before : Before) (bytes : List ℕ) (y : (ℕ × ℕ × ℕ) × List ℕ) → AreBytes bytes → sizes_at end stop before bytes ≡ Ok y → Spells bytes (sizes y.0.0 y.0.1 y.0.2) y.1
unfolding sizes_at sizes
sizes_read end stop before bytes y all e =
    let p = bind_ok (u64_at end (λ n. n == before.place) bytes) _ y e in
    let l = bind_ok (u64_at end (may_have_len stop before) p.0.1) _ y p.2 in
    let n = bind_ok (u32_at end (may_have_count before) l.0.1) _ y l.2 in
    let a = u64_read end (λ n. n == before.place) bytes p.0 all p.1 in
    let b = u64_read end (may_have_len stop before) p.0.1 l.0 a.rest_are l.1 in
    let c = u32_read end (may_have_count before) l.0.1 n.0 b.rest_are n.1 in
    subst (λ (x : (ℕ × ℕ × ℕ) × List ℕ). Spells bytes (to_be_bytes w64 x.0.0 ++ (to_be_bytes w64 x.0.1 ++ to_be_bytes w32 x.0.2)) x.1) (ok_is _ y n.2)
    (chain bytes (to_be_bytes w64 p.0.0) p.0.1 (to_be_bytes w64 l.0.0 ++ to_be_bytes w32 n.0.0) n.0.1 a (chain p.0.1 (to_be_bytes w64 l.0.0) l.0.1 (to_be_bytes w32 n.0.0) n.0.1 b c))

handles_read : (end : ℕ) (before : Before) (bytes : List ℕ) (y : (ℤ × ℤ) × List ℕ) → AreBytes bytes → handles_at end before bytes ≡ Ok y → Spells bytes (handle y.0.0 ++ handle y.0.1) y.1
unfolding handles_at
handles_read end before bytes y all e =
    let l = bind_ok (handle_at end (may_begin before) bytes) _ y e in
    let h = bind_ok (handle_at end (λ high. cond (int_lt high l.0.0) false true) l.0.1) _ y l.2 in
    let a = handle_read end (may_begin before) bytes l.0 all l.1 in
    let b = handle_read end (λ high. cond (int_lt high l.0.0) false true) l.0.1 h.0 a.rest_are h.1 in
    subst (λ (x : (ℤ × ℤ) × List ℕ). Spells bytes (handle x.0.0 ++ handle x.0.1) x.1) (ok_is _ y h.2) (chain bytes (handle l.0.0) l.0.1 (handle h.0.0) h.0.1 a b)

head_read : (end stop : ℕ) (before : Before) (bytes : List ℕ) (y : Head × List ℕ) → AreBytes bytes → head_at end stop before bytes ≡ Ok y → Spells bytes (sizes y.0.place y.0.len y.0.count ++ (handle y.0.low ++ handle y.0.high)) y.1
unfolding head_at
head_read end stop before bytes y all e =
    let s = bind_ok (sizes_at end stop before bytes) _ y e in
    let h = bind_ok (handles_at end before s.0.1) _ y s.2 in
    let a = sizes_read end stop before bytes s.0 all s.1 in
    let b = handles_read end before s.0.1 h.0 a.rest_are h.1 in
    subst (λ (x : Head × List ℕ). Spells bytes (sizes x.0.place x.0.len x.0.count ++ (handle x.0.low ++ handle x.0.high)) x.1) (ok_is _ y h.2)
    (chain bytes (sizes s.0.0.0 s.0.0.1 s.0.0.2) s.0.1 (handle h.0.0.0 ++ handle h.0.0.1) h.0.1 a b)

entry_read : (end stop : ℕ) (columns : List Column) (before : Before) (bytes : List ℕ) (y : Pack × List ℕ) → AreBytes bytes → pack_entry_at end stop columns before bytes ≡ Ok y → Spells bytes (entry_spelled columns y.0) y.1
unfolding pack_entry_at
entry_read end stop columns before bytes y all e =
    let h = bind_ok (head_at end stop before bytes) _ y e in
    let r = bind_ok (one_for_each (range_at end) columns h.0.1) _ y h.2 in
    let a = head_read end stop before bytes h.0 all h.1 in
    let b = ranges_read end columns h.0.1 r.0 a.rest_are r.1 in
    let front = sizes h.0.0.place h.0.0.len h.0.0.count in
    let both = handle h.0.0.low ++ handle h.0.0.high in
    subst (λ (x : Pack × List ℕ). Spells bytes (entry_spelled columns x.0) x.1) (ok_is _ y r.2)
    (subst (λ (xs : List ℕ). Spells bytes xs r.0.1) (append_assoc front both (ranges_spelled columns r.0.0)) (chain bytes (front ++ both) h.0.1 (ranges_spelled columns r.0.0) r.0.1 a b))

entries_read : (end stop : ℕ) (columns : List Column) (count : ℕ) (before : Before) (bytes : List ℕ) (y : List Pack × List ℕ) → AreBytes bytes → so_many (pack_entry_at end stop columns) behind count before bytes ≡ Ok y → Spells bytes (flat_map (entry_spelled columns) y.0) y.1 × (length y.0 ≡ count)
unfolding so_many
entries_read end stop columns zero before bytes y all e = subst (λ (p : List Pack × List ℕ). Spells bytes (flat_map (entry_spelled columns) p.0) p.1 × (length p.0 ≡ 0)) (ok_is _ y e) (record { is = refl; rest_are = all }, refl)
entries_read end stop columns (suc count) before bytes y all e =
    let a = bind_ok (pack_entry_at end stop columns before bytes) _ y e in
    let b = bind_ok (so_many (pack_entry_at end stop columns) behind count (behind before a.0.0) a.0.1) _ y a.2 in
    let one = entry_read end stop columns before bytes a.0 all a.1 in
    let rest = entries_read end stop columns count (behind before a.0.0) a.0.1 b.0 one.rest_are b.1 in
    subst (λ (p : List Pack × List ℕ). Spells bytes (flat_map (entry_spelled columns) p.0) p.1 × (length p.0 ≡ suc count)) (ok_is _ y b.2)
    (chain bytes (entry_spelled columns a.0.0) a.0.1 (flat_map (entry_spelled columns) b.0.0) b.0.1 one rest.0, ap suc rest.1)

-- ---- the footer

ended_is : (end : ℕ) (bytes : List ℕ) (y : Unit {0}) → ended end bytes ≡ Ok y → bytes ≡ []
unfolding ended
ended_is end [] y e = refl
ended_is end (b ∷ bytes) y e = cc e

nothing : (xs : List ℕ) → length xs ≡ 0 → xs ≡ []
nothing [] e = refl
nothing (x ∷ xs) e = absurd (omega (arith, e))

packs_read : (end : ℕ) (bytes : List ℕ) (n : ℕ) → length bytes ≤ 8 → AreBytes bytes → packs_at end bytes ≡ Ok n → bytes ≡ to_be_bytes w64 n
unfolding packs_at
packs_read end bytes n few all e =
    let a = bind_ok (number_at w64 (Damaged end) bytes) _ n e in
    let is = u64_spelled (Damaged end) bytes a.0 a.1 all in
    let none : a.0.1 ≡ [] = nothing a.0.1 (omega (arith, ap length is, length-append (to_be_bytes w64 a.0.0) a.0.1, few)) in
    is ∙ ap (λ (xs : List ℕ). to_be_bytes w64 a.0.0 ++ xs) none ∙ append-nil (to_be_bytes w64 a.0.0) ∙ ap (to_be_bytes w64) (by a.0.0 (a.0.0 == 0) a.2)
  where
    by : (m : ℕ) (b : Bool) → cond b (Err (here end bytes)) (Ok m) ≡ Ok n → m ≡ n
    by m true h = cc h
    by m false h = ok_is m n h

pub footer_read : FootersHaveOneSpelling
unfolding footer_at entries_at
footer_read columns end footer packs all e =
    let front = take (length footer - 8) footer in
    let last = drop (length footer - 8) footer in
    let n = bind_ok (packs_at end last) _ packs e in
    let m = bind_ok (so_many (pack_entry_at (end - 8) (end - length footer) columns) behind n.0 (first n.0) front) _ packs n.2 in
    let d = bind_ok (ended (end - 8) m.0.1) _ packs m.2 in
    let whole : front ++ last ≡ footer = take-append-drop (length footer - 8) footer in
    let last_are : AreBytes last = behind_are front last (subst AreBytes (sym whole) all) in
    let number = packs_read end last n.0 (omega (arith, length-drop (length footer - 8) footer)) last_are n.1 in
    let entries = entries_read (end - 8) (end - length footer) columns n.0 (first n.0) front m.0 (front_bytes (length footer - 8) footer all) m.1 in
    let front_is : front ≡ flat_map (entry_spelled columns) m.0.0 = entries.0.is ∙ ap (λ (xs : List ℕ). flat_map (entry_spelled columns) m.0.0 ++ xs) (ended_is (end - 8) m.0.1 d.0 d.1) ∙ append-nil (flat_map (entry_spelled columns) m.0.0) in
    sym whole ∙ (λ i. front_is i ++ number i) ∙ ap (λ k. flat_map (entry_spelled columns) m.0.0 ++ to_be_bytes w64 k) (sym entries.1) ∙ ap (footer_spelled columns) (ok_is _ packs d.2)
