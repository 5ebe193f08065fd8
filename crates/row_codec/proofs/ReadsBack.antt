-- What is written is read again.
use Rattle.std.proofs.Common.{◌≡◌, ℕ, zero, suc, ◌+◌, ◌-◌, ◌*◌, ◌^◌, ◌<◌, ◌≤◌, List, [], ◌∷◌, ◌++◌, length, map, take, drop, get_or, nat_lt, nat_eq, nat_le, if◌then◌else◌, Bool, true, false, Option, None, Ok, refl, sym, ap, ◌∙◌, arith, append_assoc, length-append}
use Rattle.std.specs.Prelude.{zip, ◌||◌}
use Rattle.std.specs.List.{list_any}
use Rattle.std.proofs.Math.ListN.{get_or-append}
use Rattle.std.proofs.lemmas.List.{get_or-append-add}
use Rattle.std.proofs.lemmas.Bool.{ltb-false, ne_eqb}
use Rattle.std.proofs.Math.Nat.{mul-zero, mul-suc}
use Rattle.std.proofs.Math.Seq.{take-append_seam}
use Rattle.std.proofs.lemmas.List.{drop-drop, length-map}
use Rattle.std.proofs.lemmas.Bool.{le-leb, le-ltb}
use Rattle.std.proofs.lemmas.List.Concat.{length-flat_map}
use Rattle.byteorder.specs.Endian.{little_number, little_bytes}
use Rattle.byteorder.specs.Numbers.{little_number-reads_back, length-bytes_low_first}
use Rattle.row_codec.specs.Numbers.{numbers, bad_end_after, first_bad_end}
use Rattle.column_block.specs.Rising.{first_fall}
use Rattle.row_codec.specs.Rows.{Row, pieces, row_of, unless_refused, checked_row, row_behind_head, row_at, ids_of}
use Rattle.row_codec.specs.Writing.{packed, ends_of, keys_of, values_of, value_bytes, head_bytes, body_bytes, row_bytes, is_big, IsWritable}
use Rattle.row_codec.proofs.Writing.{total, total_cons}

drop_front : (front rest : List ℕ) (n : ℕ) → length front ≡ n → drop n (front ++ rest) ≡ rest
drop_front [] rest zero e = refl
drop_front [] rest (suc n) e = absurd (omega (arith, e))
drop_front (x ∷ front) rest zero e = absurd (omega (arith, e))
drop_front (x ∷ front) rest (suc n) e = drop_front front rest n (omega (arith, e))

length_packed : (width : ℕ) (xs : List ℕ) → length (packed width xs) ≡ width * length xs
length_packed width [] = sym (mul-zero width)
length_packed width (x ∷ xs) = omega (arith, length-append (little_bytes width x) (packed width xs), length-bytes_low_first 0 width x, length_packed width xs, mul-suc width (length xs))

pub read_packed : (width : ℕ) (xs rest : List ℕ) → ((k : ℕ) → k < length xs → get_or xs k 0 < 256 ^ width) → numbers width (length xs) (packed width xs ++ rest) ≡ xs
unfolding numbers
read_packed width [] rest fits = refl
read_packed width (x ∷ xs) rest fits =
    let group : (little_bytes width x ++ packed width xs) ++ rest ≡ little_bytes width x ++ (packed width xs ++ rest) = simp append_assoc in
    let first : little_number width (little_bytes width x ++ (packed width xs ++ rest)) ≡ x = little_number-reads_back width x (packed width xs ++ rest) (fits 0 (omega arith)) in
    let behind : drop width (little_bytes width x ++ (packed width xs ++ rest)) ≡ packed width xs ++ rest = drop_front (little_bytes width x) (packed width xs ++ rest) width (length-bytes_low_first 0 width x) in
    ap (λ (bytes : List ℕ). little_number width bytes ∷ numbers width (length xs) (drop width bytes)) group
    ∙ ap (λ n. n ∷ numbers width (length xs) (drop width (little_bytes width x ++ (packed width xs ++ rest)))) first
    ∙ ap (λ (bytes : List ℕ). x ∷ numbers width (length xs) bytes) behind
    ∙ ap (λ (ys : List ℕ). x ∷ ys) (read_packed width xs rest (λ k lt. fits (suc k) (omega arith)))

pub ends_are_good : (values : List (ℕ × List ℕ)) (most from place : ℕ) → from + total values ≤ most → bad_end_after most from place (ends_of from values) ≡ None
ends_are_good [] most from place le = refl
ends_are_good (value ∷ values) most from place le =
    let sum = total_cons value values in
    let above : nat_le from (from + length value.1) ≡ true = le-leb from (from + length value.1) (omega arith) in
    let within : nat_le (from + length value.1) most ≡ true = le-leb (from + length value.1) most (omega (arith, sum)) in
    rw (above, within) (ends_are_good values most (from + length value.1) (place + 1) (omega (arith, sum)))

pub pieces_are : (values : List (ℕ × List ℕ)) (from : ℕ) (bytes rest : List ℕ) → drop from bytes ≡ values_of values ++ rest → pieces from (ends_of from values) bytes ≡ map (λ (value : ℕ × List ℕ). value.1) values
pieces_are [] from bytes rest e = refl
pieces_are (value ∷ values) from bytes rest e =
    let size : from + length value.1 - from ≡ length value.1 = omega arith in
    let group : drop from bytes ≡ value.1 ++ (values_of values ++ rest) = e ∙ (simp append_assoc) in
    let first : take (from + length value.1 - from) (drop from bytes) ≡ value.1 = rw (size, group) (take-append_seam value.1 (values_of values ++ rest)) in
    let behind : drop (from + length value.1) bytes ≡ values_of values ++ rest = sym (drop-drop (length value.1) from bytes) ∙ ap (drop (length value.1)) group ∙ drop_front value.1 (values_of values ++ rest) (length value.1) refl in
    ap (λ (p : List ℕ). p ∷ pieces (from + length value.1) (ends_of (from + length value.1) values) bytes) first
    ∙ ap (λ (ps : List (List ℕ)). value.1 ∷ ps) (pieces_are values (from + length value.1) bytes rest behind)

pub zip_parts : (values : List (ℕ × List ℕ)) → zip (keys_of values) (map (λ (value : ℕ × List ℕ). value.1) values) ≡ values
zip_parts [] = refl
zip_parts (value ∷ values) = ap (λ (vs : List (ℕ × List ℕ)). value ∷ vs) (zip_parts values)

checked_is : (ids nulls ends values : List ℕ) → first_fall ids ≡ None → first_fall nulls ≡ None → first_bad_end (length values) ends ≡ None → checked_row ids nulls ends values ≡ Ok (row_of ids nulls ends values)
unfolding checked_row
checked_is ids nulls ends values rise nulls_rise good =
    ap (λ (fall : Option ℕ). unless_refused (length ids) fall (first_fall nulls) (first_bad_end (length values) ends) (row_of ids nulls ends values)) rise
    ∙ ap (λ (fall : Option ℕ). unless_refused (length ids) None fall (first_bad_end (length values) ends) (row_of ids nulls ends values)) nulls_rise
    ∙ ap (λ (bad : Option ℕ). unless_refused (length ids) None None bad (row_of ids nulls ends values)) good

-- the parts of a row are the row again, whatever follows
pub checked_again : (row : Row) (rest : List ℕ) → first_fall (keys_of row.0) ≡ None → first_fall row.1 ≡ None → checked_row (keys_of row.0) row.1 (ends_of 0 row.0) (values_of row.0 ++ rest) ≡ Ok row
checked_again row rest rise nulls_rise =
    let good : first_bad_end (length (values_of row.0 ++ rest)) (ends_of 0 row.0) ≡ None = ends_are_good row.0 (length (values_of row.0 ++ rest)) 0 0 (omega (arith, length-append (values_of row.0) rest, length-flat_map (λ (value : ℕ × List ℕ). value.1) row.0)) in
    let same : pieces 0 (ends_of 0 row.0) (values_of row.0 ++ rest) ≡ map (λ (value : ℕ × List ℕ). value.1) row.0 = pieces_are row.0 0 (values_of row.0 ++ rest) rest refl in
    let values : zip (keys_of row.0) (pieces 0 (ends_of 0 row.0) (values_of row.0 ++ rest)) ≡ row.0 = ap (zip (keys_of row.0)) same ∙ zip_parts row.0 in
    checked_is (keys_of row.0) row.1 (ends_of 0 row.0) (values_of row.0 ++ rest) rise nulls_rise good ∙ ap (λ (vs : List (ℕ × List ℕ)). Ok (vs, row.1)) values

length_ends : (from : ℕ) (values : List (ℕ × List ℕ)) → length (ends_of from values) ≡ length values
length_ends from [] = refl
length_ends from (value ∷ values) = ap suc (length_ends (from + length value.1) values)

assemble : (id end n m : ℕ) (bytes a b c d : List ℕ) → nat_lt (length bytes) (6 + id * n + id * m + end * n) ≡ false → drop 6 bytes ≡ a → drop (6 + id * n) bytes ≡ b → drop (6 + id * n + id * m) bytes ≡ c → drop (6 + id * n + id * m + end * n) bytes ≡ d
    → row_behind_head id end n m bytes ≡ checked_row (numbers id n a) (numbers id m b) (numbers end n c) d
unfolding row_behind_head
assemble id end n m bytes a b c d long ea eb ec ed = rw (long, ea, eb, ec, ed) refl

read_count : (width n : ℕ) (xs rest : List ℕ) → length xs ≡ n → ((k : ℕ) → k < length xs → get_or xs k 0 < 256 ^ width) → numbers width n (packed width xs ++ rest) ≡ xs
read_count width n xs rest e fits = ap (λ (count : ℕ). numbers width count (packed width xs ++ rest)) (sym e) ∙ read_packed width xs rest fits

behind_again : (id end flags : ℕ) (row : Row) (rest : List ℕ) → first_fall (keys_of row.0) ≡ None → first_fall row.1 ≡ None → ((k : ℕ) → k < length (keys_of row.0) → get_or (keys_of row.0) k 0 < 256 ^ id) → ((k : ℕ) → k < length row.1 → get_or row.1 k 0 < 256 ^ id) → ((k : ℕ) → k < length (ends_of 0 row.0) → get_or (ends_of 0 row.0) k 0 < 256 ^ end)
    → row_behind_head id end (length row.0) (length row.1) ((head_bytes flags (length row.0) (length row.1) ++ body_bytes id end row) ++ rest) ≡ Ok row
behind_again id end flags row rest rise nulls_rise keys_fit nulls_fit ends_fit =
    let n = length row.0 in
    let m = length row.1 in
    let keys = packed id (keys_of row.0) in
    let nulls = packed id row.1 in
    let ends = packed end (ends_of 0 row.0) in
    let values = values_of row.0 ++ rest in
    let bytes = (head_bytes flags (length row.0) (length row.1) ++ body_bytes id end row) ++ rest in
    let key_count : length (keys_of row.0) ≡ length row.0 = length-map row.0 (λ (value : ℕ × List ℕ). value.0) in
    let end_count : length (ends_of 0 row.0) ≡ length row.0 = length_ends 0 row.0 in
    let key_len : length (packed id (keys_of row.0)) ≡ id * length row.0 = length_packed id (keys_of row.0) ∙ ap (λ k. id * k) key_count in
    let null_len : length (packed id row.1) ≡ id * length row.1 = length_packed id row.1 in
    let end_len : length (packed end (ends_of 0 row.0)) ≡ end * length row.0 = length_packed end (ends_of 0 row.0) ∙ ap (λ k. end * k) end_count in
    let behind : drop 6 bytes ≡ keys ++ (nulls ++ (ends ++ values)) = (simp append_assoc) in
    let at_nulls : drop (6 + id * length row.0) bytes ≡ nulls ++ (ends ++ values) = sym (drop-drop (id * length row.0) 6 bytes) ∙ ap (drop (id * length row.0)) behind ∙ drop_front keys (nulls ++ (ends ++ values)) (id * length row.0) key_len in
    let at_ends : drop (6 + id * length row.0 + id * length row.1) bytes ≡ ends ++ values = sym (drop-drop (id * length row.1) (6 + id * length row.0) bytes) ∙ ap (drop (id * length row.1)) at_nulls ∙ drop_front nulls (ends ++ values) (id * length row.1) null_len in
    let at_values : drop (6 + id * length row.0 + id * length row.1 + end * length row.0) bytes ≡ values = sym (drop-drop (end * length row.0) (6 + id * length row.0 + id * length row.1) bytes) ∙ ap (drop (end * length row.0)) at_ends ∙ drop_front ends values (end * length row.0) end_len in
    let long : nat_lt (length bytes) (6 + id * length row.0 + id * length row.1 + end * length row.0) ≡ false = le-ltb (length bytes) (6 + id * length row.0 + id * length row.1 + end * length row.0) (omega (arith, ap length behind, key_len, null_len, end_len, length-append keys (nulls ++ (ends ++ values)), length-append nulls (ends ++ values), length-append ends values)) in
    assemble id end n m bytes (keys ++ (nulls ++ (ends ++ values))) (nulls ++ (ends ++ values)) (ends ++ values) values long behind at_nulls at_ends at_values
    ∙ ap (λ (xs : List ℕ). checked_row xs (numbers id m (nulls ++ (ends ++ values))) (numbers end n (ends ++ values)) values) (read_count id n (keys_of row.0) (nulls ++ (ends ++ values)) key_count keys_fit)
    ∙ ap (λ (xs : List ℕ). checked_row (keys_of row.0) xs (numbers end n (ends ++ values)) values) (read_count id m row.1 (ends ++ values) refl nulls_fit)
    ∙ ap (λ (xs : List ℕ). checked_row (keys_of row.0) row.1 xs values) (read_count end n (ends_of 0 row.0) values end_count ends_fit)
    ∙ checked_again row rest rise nulls_rise

with_big_head : (n m : ℕ) (body rest : List ℕ) → n < 2 ^ 16 → m < 2 ^ 16 → row_at ((head_bytes 1 n m ++ body) ++ rest) ≡ row_behind_head 4 4 n m ((head_bytes 1 n m ++ body) ++ rest)
unfolding row_at
with_big_head n m body rest few few_nulls =
    let bytes = (head_bytes 1 n m ++ body) ++ rest in
    let count : little_number 2 (drop 2 bytes) ≡ n = little_number-reads_back 2 n (little_bytes 2 m ++ (body ++ rest)) few in
    let null_count : little_number 2 (drop 4 bytes) ≡ m = little_number-reads_back 2 m (body ++ rest) few_nulls in
    let some : nat_eq (length bytes) 0 ≡ false = ne_eqb (length bytes) 0 (λ none. absurd (omega (arith, none))) in
    rw some (ap (λ x. row_behind_head 4 4 x (little_number 2 (drop 4 bytes)) bytes) count ∙ ap (λ y. row_behind_head 4 4 n y bytes) null_count)

with_small_head : (n m : ℕ) (body rest : List ℕ) → n < 2 ^ 16 → m < 2 ^ 16 → row_at ((head_bytes 0 n m ++ body) ++ rest) ≡ row_behind_head 1 2 n m ((head_bytes 0 n m ++ body) ++ rest)
unfolding row_at
with_small_head n m body rest few few_nulls =
    let bytes = (head_bytes 0 n m ++ body) ++ rest in
    let count : little_number 2 (drop 2 bytes) ≡ n = little_number-reads_back 2 n (little_bytes 2 m ++ (body ++ rest)) few in
    let null_count : little_number 2 (drop 4 bytes) ≡ m = little_number-reads_back 2 m (body ++ rest) few_nulls in
    let some : nat_eq (length bytes) 0 ≡ false = ne_eqb (length bytes) 0 (λ none. absurd (omega (arith, none))) in
    rw some (ap (λ x. row_behind_head 1 2 x (little_number 2 (drop 4 bytes)) bytes) count ∙ ap (λ y. row_behind_head 1 2 n y bytes) null_count)

ends_below : (values : List (ℕ × List ℕ)) (from k : ℕ) → k < length (ends_of from values) → get_or (ends_of from values) k 0 ≤ from + total values
ends_below [] from k lt = absurd (omega arith)
ends_below (value ∷ values) from zero lt = omega (arith, total_cons value values)
ends_below (value ∷ values) from (suc k) lt = omega (arith, total_cons value values, ends_below values (from + length value.1) k (omega arith))

none_of : (a b : Bool) → (a || b) ≡ false → (a ≡ false) × (b ≡ false)
none_of true b h = cc h
none_of false b h = (refl, h)

small_ids : (xs : List ℕ) (k : ℕ) → list_any (nat_lt 255) xs ≡ false → k < length xs → get_or xs k 0 < 256
small_ids [] k h lt = absurd (omega arith)
small_ids (x ∷ xs) zero h lt = omega (arith, ltb-false 255 x (none_of (nat_lt 255 x) (list_any (nat_lt 255) xs) h).0)
small_ids (x ∷ xs) (suc k) h lt = small_ids xs k (none_of (nat_lt 255 x) (list_any (nat_lt 255) xs) h).1 (omega arith)

small_keys : (values : List (ℕ × List ℕ)) (k : ℕ) → list_any (λ (value : ℕ × List ℕ). nat_lt 255 value.0) values ≡ false → k < length (keys_of values) → get_or (keys_of values) k 0 < 256
small_keys [] k h lt = absurd (omega arith)
small_keys (v ∷ values) zero h lt = omega (arith, ltb-false 255 v.0 (none_of (nat_lt 255 v.0) (list_any (λ (value : ℕ × List ℕ). nat_lt 255 value.0) values) h).0)
small_keys (v ∷ values) (suc k) h lt = small_keys values k (none_of (nat_lt 255 v.0) (list_any (λ (value : ℕ × List ℕ). nat_lt 255 value.0) values) h).1 (omega arith)

-- what is written of a row is read as that row, whatever follows
pub reads_back : (row : Row) (rest : List ℕ) → IsWritable row → ((k : ℕ) → k < length (ids_of row) → get_or (ids_of row) k 0 < 2 ^ 32) → row_at (row_bytes row ++ rest) ≡ Ok row
unfolding row_bytes
reads_back row rest writable fit =
    let key_fits : (k : ℕ) → k < length (keys_of row.0) → get_or (keys_of row.0) k 0 < 256 ^ 4 = λ k lt. omega (arith, get_or-append (keys_of row.0) row.1 0 k lt, fit k (omega (arith, length-append (keys_of row.0) row.1))) in
    let null_fits : (k : ℕ) → k < length row.1 → get_or row.1 k 0 < 256 ^ 4 = λ k lt. omega (arith, get_or-append-add (keys_of row.0) row.1 k 0, fit (length (keys_of row.0) + k) (omega (arith, length-append (keys_of row.0) row.1))) in
    let P : Bool → Type 0 = λ big. row_at ((if big then head_bytes 1 (length row.0) (length row.1) ++ body_bytes 4 4 row else head_bytes 0 (length row.0) (length row.1) ++ body_bytes 1 2 row) ++ rest) ≡ Ok row in
    elim (is_big row) as (λ big. is_big row ≡ big → P big) [
      | true ↦ λ e.
          with_big_head (length row.0) (length row.1) (body_bytes 4 4 row) rest (omega (arith, writable.few)) (omega (arith, writable.few))
          ∙ behind_again 4 4 1 row rest writable.rise writable.nulls_rise key_fits null_fits (λ k lt. omega (arith, writable.small, ends_below row.0 0 k lt))
      | false ↦ λ e.
          let parts = none_of (list_any (λ (value : ℕ × List ℕ). nat_lt 255 value.0) row.0 || nat_lt 65535 (value_bytes row)) (list_any (nat_lt 255) row.1) e in
          let front = none_of (list_any (λ (value : ℕ × List ℕ). nat_lt 255 value.0) row.0) (nat_lt 65535 (value_bytes row)) parts.0 in
          with_small_head (length row.0) (length row.1) (body_bytes 1 2 row) rest (omega (arith, writable.few)) (omega (arith, writable.few))
          ∙ behind_again 1 2 0 row rest writable.rise writable.nulls_rise (λ k lt. small_keys row.0 k front.0 lt) (λ k lt. small_ids row.1 k parts.1 lt) (λ k lt. omega (arith, ltb-false 65535 (value_bytes row) front.1, ends_below row.0 0 k lt))
    ] refl
