-- Adding a column to a row that is to be written.
use Rattle.std.proofs.Common.{◌≡◌, ℕ, suc, ◌+◌, ◌<◌, List, [], ◌∷◌, ◌++◌, length, get_or, take, append_assoc, subst, ◌^◌, nat_lt, if◌then◌else◌, Bool, true, false, Option, Some, None, refl, sym, ap, ◌∙◌, arith, length-append}
use Rattle.std.specs.List.{sum_by}
use Rattle.std.proofs.lemmas.List.{map-append, length-map, take_more, append-nil}
use Rattle.std.proofs.lemmas.Grind.{flat_map-append}
use Rattle.byteorder.specs.Endian.{little_bytes}
use Rattle.std.proofs.lemmas.List.Sums.{sum_by-append}
use Rattle.std.proofs.Math.ListN.{get_or-append}
use Rattle.std.proofs.lemmas.List.{get_or-append-add}
use Rattle.std.proofs.lemmas.Bool.{lt-ltb}
use Rattle.column_block.specs.Rising.{fall_after, first_fall}
use Rattle.row_codec.specs.Rows.{Row, ids_of}
use Rattle.row_codec.specs.Writing.{packed, ends_of, keys_of, value_bytes, IsWritable}

abbrev pub total : List (ℕ × List ℕ) → ℕ
total values = sum_by (λ (value : ℕ × List ℕ). length value.1) values

pub total_cons : (value : ℕ × List ℕ) (values : List (ℕ × List ℕ)) → total (value ∷ values) ≡ length value.1 + total values
total_cons value values = omega (arith, sum_by-append (λ (v : ℕ × List ℕ). length v.1) (value ∷ []) values)

pub total_push : (values : List (ℕ × List ℕ)) (value : ℕ × List ℕ) → total (values ++ value ∷ []) ≡ total values + length value.1
total_push values value = omega (arith, sum_by-append (λ (v : ℕ × List ℕ). length v.1) values (value ∷ []))

ends_after : (from : ℕ) (values : List (ℕ × List ℕ)) (value : ℕ × List ℕ) → ends_of from (values ++ value ∷ []) ≡ ends_of from values ++ (from + total values + length value.1) ∷ []
ends_after from [] value = ap (λ n. n ∷ []) (omega arith)
ends_after from (v ∷ values) value =
    ap (λ (ends : List ℕ). (from + length v.1) ∷ ends) (ends_after (from + length v.1) values value ∙ ap (λ n. ends_of (from + length v.1) values ++ n ∷ []) (omega (arith, total_cons v values)))

pub ends_of_push : (values : List (ℕ × List ℕ)) (value : ℕ × List ℕ) → ends_of 0 (values ++ value ∷ []) ≡ ends_of 0 values ++ (total values + length value.1) ∷ []
ends_of_push values value = ends_after 0 values value ∙ ap (λ n. ends_of 0 values ++ n ∷ []) (omega arith)

both : (b : Bool) (r : Option ℕ) (place : ℕ) → (if b then r else Some place) ≡ None → (b ≡ true) × (r ≡ None)
both true r place h = (refl, h)
both false r place h = cc h

no_fall_after : (xs : List ℕ) (before place id : ℕ) → fall_after before place xs ≡ None → before < id → ((k : ℕ) → k < length xs → get_or xs k 0 < id) → fall_after before place (xs ++ id ∷ []) ≡ None
no_fall_after [] before place id h lt above = let e : nat_lt before id ≡ true = lt-ltb before id lt in rw e refl
no_fall_after (x ∷ xs) before place id h lt above =
    let s = both (nat_lt before x) (fall_after x (place + 1) xs) place h in
    rw s.0 (no_fall_after xs x (place + 1) id s.1 (above 0 (omega arith)) (λ k less. above (suc k) (omega arith)))

pub no_fall_push : (xs : List ℕ) (id : ℕ) → first_fall xs ≡ None → ((k : ℕ) → k < length xs → get_or xs k 0 < id) → first_fall (xs ++ id ∷ []) ≡ None
no_fall_push [] id h above = refl
no_fall_push (x ∷ xs) id h above = no_fall_after xs x 1 id h (above 0 (omega arith)) (λ k less. above (suc k) (omega arith))

-- the id is above all ids of the row
abbrev pub IsAbove : ℕ → Row → Type 0
IsAbove id row = (k : ℕ) → k < length (ids_of row) → get_or (ids_of row) k 0 < id

module _ (fields : List (ℕ × List ℕ)) (nulls : List ℕ) (row : Row) (id : ℕ) (is : (fields, nulls) ≡ row) (old : IsWritable (fields, nulls)) (above : IsAbove id row) (room : length (ids_of row) < 65535) where
  here : IsAbove id (fields, nulls)
  here = subst (IsAbove id) (sym is) above

  count : length fields + length nulls < 65535
  count = omega (arith, room, ap (λ (r : Row). length (ids_of r)) is, length-append (keys_of fields) nulls, length-map fields (λ (value : ℕ × List ℕ). value.0))

  pub writable_field : (value : List ℕ) → value_bytes row + length value < 2 ^ 32 → IsWritable (fields ++ (id, value) ∷ [], nulls)
  writable_field value bytes = record {
    rise = subst (λ (keys : List ℕ). first_fall keys ≡ None) (sym (map-append (λ (v : ℕ × List ℕ). v.0) fields ((id, value) ∷ []))) (no_fall_push (keys_of fields) id old.rise (λ k lt. omega (arith, get_or-append (keys_of fields) nulls 0 k lt, here k (omega (arith, length-append (keys_of fields) nulls)))));
    nulls_rise = old.nulls_rise;
    few = omega (arith, count, length-append fields ((id, value) ∷ []));
    small = omega (arith, bytes, ap value_bytes is, total_push fields (id, value));
  }

  pub writable_null : IsWritable (fields, nulls ++ id ∷ [])
  writable_null = record {
    rise = old.rise;
    nulls_rise = no_fall_push nulls id old.nulls_rise (λ k lt. omega (arith, get_or-append-add (keys_of fields) nulls k 0, here (length (keys_of fields) + k) (omega (arith, length-append (keys_of fields) nulls))));
    few = omega (arith, count, length-append nulls (id ∷ []));
    small = old.small;
  }

pub ends_step : (fields : List (ℕ × List ℕ)) (i : ℕ) (item : ℕ × List ℕ) (width end len : ℕ) (before so_far now : List ℕ) → i < length fields → item ≡ get_or fields i item → end ≡ total (take i fields) → len ≡ length item.1
    → so_far ≡ before ++ packed width (ends_of 0 (take i fields)) → now ≡ so_far ++ little_bytes width (end + len) → (end + len ≡ total (take (i + 1) fields)) × (now ≡ before ++ packed width (ends_of 0 (take (i + 1) fields)))
ends_step fields i item width end len before so_far now lt is end_is len_is written put =
    let more : take (i + 1) fields ≡ take i fields ++ item ∷ [] = take_more fields i item lt ∙ ap (λ (x : ℕ × List ℕ). take i fields ++ x ∷ []) (sym is) in
    let sum : end + len ≡ total (take i fields) + length item.1 = omega arith in
    let ends : ends_of 0 (take (i + 1) fields) ≡ ends_of 0 (take i fields) ++ (end + len) ∷ [] = ap (ends_of 0) more ∙ ends_of_push (take i fields) item ∙ ap (λ n. ends_of 0 (take i fields) ++ n ∷ []) (sym sum) in
    let all : packed width (ends_of 0 (take (i + 1) fields)) ≡ packed width (ends_of 0 (take i fields)) ++ little_bytes width (end + len) = ap (packed width) ends ∙ flat_map-append (little_bytes width) (ends_of 0 (take i fields)) ((end + len) ∷ []) ∙ ap (λ (bytes : List ℕ). packed width (ends_of 0 (take i fields)) ++ bytes) (append-nil (little_bytes width (end + len))) in (
      omega (arith, sum, ap total more, total_push (take i fields) item),
      put ∙ ap (λ (bytes : List ℕ). bytes ++ little_bytes width (end + len)) written ∙ (simp append_assoc) ∙ sym (ap (λ (bytes : List ℕ). before ++ bytes) all),
    )
