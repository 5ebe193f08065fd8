-- The values of the generated log's rows: rows of its table, of few bytes.
use Rattle.std.proofs.Common.{◌≡◌, ◌∙◌, refl, sym, ap, ℕ, zero, suc, ◌%◌, ◌^◌, ◌<◌, ◌≤◌, Bool, true, false, cond, List, [], ◌∷◌, None, Ok, length, get_or, replicate, arith, ltb, length-append, append-nil}
use Rattle.std.proofs.lemmas.List.{length-replicate}
use Rattle.std.proofs.lemmas.Bool.{le-ltb}
use Rattle.byteorder.specs.Endian.{little_bytes}
use Rattle.byteorder.specs.Numbers.{length-bytes_low_first}
use Rattle.column_block.specs.Cells.{is_width}
use Rattle.row_codec.specs.Rows.{row_at}
use Rattle.row_codec.specs.Writing.{IsWritable, row_bytes, value_bytes}
use Rattle.row_codec.proofs.ReadsBack.{reads_back}
use Rattle.committed_log.specs.Admission.{row_fault_of}
use Rattle.generator.specs.Generated.{fields, value, columns, int_width, uint_width}

-- ---- sizes

either : (b : Bool) (m n most : ℕ) → m ≤ most → n ≤ most → cond b m n ≤ most
either true m n most a b = a
either false m n most a b = b

int_small : (n : ℕ) → int_width n ≤ 8
int_small n = either (ltb n (2 ^ 7)) 1 _ 8 (omega arith) (either (ltb n (2 ^ 15)) 2 _ 8 (omega arith) (either (ltb n (2 ^ 31)) 4 8 8 (omega arith) (omega arith)))

uint_small : (n : ℕ) → uint_width n ≤ 8
uint_small n = either (ltb n (2 ^ 8)) 1 _ 8 (omega arith) (either (ltb n (2 ^ 16)) 2 _ 8 (omega arith) (either (ltb n (2 ^ 32)) 4 8 8 (omega arith) (omega arith)))

int_length : (h : ℕ) → length (little_bytes (int_width h) h) ≡ int_width h
int_length h = length-bytes_low_first 0 (int_width h) h

uint_length : (i : ℕ) → length (little_bytes (uint_width i) i) ≡ uint_width i
uint_length i = length-bytes_low_first 0 (uint_width i) i

filler_length : (i : ℕ) → length (replicate (i % 16) (i % 256)) ≤ 15
filler_length i = omega (arith, length-replicate (i % 16) (i % 256))

few_bytes : (a b c : List ℕ) → length a ≤ 8 → length b ≤ 8 → length c ≤ 15 → value_bytes ((1, a) ∷ (2, b) ∷ (3, c) ∷ [], []) ≤ 31
few_bytes a b c la lb lc = omega arith

pub bytes_few : (h i : ℕ) → value_bytes (fields h i) ≤ 31
bytes_few h i = few_bytes _ _ _ (omega (arith, int_length h, int_small h)) (omega (arith, uint_length i, uint_small i)) (filler_length i)

-- a row of three columns that has few bytes
short_row : (a b c : List ℕ) → value_bytes ((1, a) ∷ (2, b) ∷ (3, c) ∷ [], []) ≤ 31 → length (row_bytes ((1, a) ∷ (2, b) ∷ (3, c) ∷ [], [])) ≤ 46
unfolding row_bytes
short_row a b c few =
    let small : ltb 65535 (value_bytes ((1, a) ∷ (2, b) ∷ (3, c) ∷ [], [])) ≡ false = le-ltb 65535 (value_bytes ((1, a) ∷ (2, b) ∷ (3, c) ∷ [], [])) (omega (arith, few)) in
    rw small (simp length-append (omega (arith, few)))

pub value_length : (h i : ℕ) → length (value h i) ≤ 46
unfolding value
value_length h i = short_row _ _ _ (bytes_few h i)

-- ---- cells

width_is : (b c d : Bool) → is_width (cond b 1 (cond c 2 (cond d 4 8))) ≡ true
width_is true c d = refl
width_is false true d = refl
width_is false false true = refl
width_is false false false = refl

int_is : (h : ℕ) → is_width (length (little_bytes (int_width h) h)) ≡ true
int_is h = ap is_width (int_length h) ∙ width_is (ltb h (2 ^ 7)) (ltb h (2 ^ 15)) (ltb h (2 ^ 31))

uint_is : (i : ℕ) → is_width (length (little_bytes (uint_width i) i)) ≡ true
uint_is i = ap is_width (uint_length i) ∙ width_is (ltb i (2 ^ 8)) (ltb i (2 ^ 16)) (ltb i (2 ^ 32))

ids_small : (k : ℕ) → k < 3 → get_or (1 ∷ 2 ∷ 3 ∷ []) k 0 < 2 ^ 32
ids_small zero lt = omega arith
ids_small (suc zero) lt = omega arith
ids_small (suc (suc zero)) lt = omega arith
ids_small (suc (suc (suc k))) lt = absurd (omega (arith, lt))

writable : (a b c : List ℕ) → value_bytes ((1, a) ∷ (2, b) ∷ (3, c) ∷ [], []) ≤ 31 → IsWritable ((1, a) ∷ (2, b) ∷ (3, c) ∷ [], [])
writable a b c few = record { rise = refl; nulls_rise = refl; few = omega arith; small = omega (arith, few) }

pub fields_writable : (h i : ℕ) → IsWritable (fields h i)
fields_writable h i = writable _ _ _ (bytes_few h i)

pub fields_read : (h i : ℕ) → row_at (value h i) ≡ Ok (fields h i)
unfolding value
fields_read h i = ap row_at (sym (append-nil (row_bytes (fields h i)))) ∙ reads_back (fields h i) [] (fields_writable h i) ids_small

pub value_is_row : (h i : ℕ) → row_fault_of columns (value h i) ≡ None
value_is_row h i = rw (fields_read h i, row_fault_of) (rw (int_is h) (rw (uint_is i) refl))
