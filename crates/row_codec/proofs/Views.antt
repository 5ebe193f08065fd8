-- The parts of a row against the row that they are.
use Rattle.std.proofs.Common.{◌≡◌, ◌≢◌, ℕ, zero, suc, ◌+◌, ◌-◌, ◌*◌, ◌<◌, ◌≤◌, List, [], ◌∷◌, ◌++◌, length, map, take, drop, get_or, slice_get, Bool, true, false, nat_lt, nat_le, nat_eq, ◌&&◌, if◌then◌else◌, Option, Some, None, Err, refl, sym, ap, ◌∙◌, subst, arith, eq-eqb, length-append}
use Rattle.std.specs.Prelude.{zip}
use Rattle.std.specs.List.{list_any}
use Rattle.std.specs.Map.{lookup}
use Rattle.std.proofs.lemmas.Bool.{lt-ltb, leb-true, ne_eqb, or_right}
use Rattle.std.proofs.Math.ListN.{get_or-append}
use Rattle.std.proofs.Math.Seq.{get_or-append_right}
use Rattle.std.proofs.lemmas.Option.{slice_get-get_or}
use Rattle.row_codec.specs.declared.row.RowError.TheVariants.{Short}
use Rattle.row_codec.specs.Numbers.{bad_end_after}
use Rattle.column_block.specs.Rising.{first_fall}
use Rattle.row_codec.specs.Rows.{Row, pieces, start_of, row_of, row_behind_head, ids_of, field_among, field_of}
use Rattle.column_block.proofs.Rising.{rising}

-- bytes that end within the head are too short, whatever the counts are
pub ends_in_head : (id end n m : ℕ) (bytes : List ℕ) → length bytes < 6 → row_behind_head id end n m bytes ≡ Err (Short (length bytes))
unfolding row_behind_head
ends_in_head id end n m bytes lt = let e : nat_lt (length bytes) (6 + id * n + id * m + end * n) ≡ true = lt-ltb (length bytes) (6 + id * n + id * m + end * n) (omega arith) in rw e refl

pub length-pieces : (from : ℕ) (ends bytes : List ℕ) → length (pieces from ends bytes) ≡ length ends
length-pieces from [] bytes = refl
length-pieces from (end ∷ ends) bytes = ap suc (length-pieces end ends bytes)

pub slice_get-pieces : (from : ℕ) (ends bytes : List ℕ) (k : ℕ) → k < length ends → slice_get (pieces from ends bytes) k ≡ Some (take (get_or ends k 0 - start_of from ends k) (drop (start_of from ends k) bytes))
slice_get-pieces from [] bytes k lt = absurd (omega arith)
slice_get-pieces from (end ∷ ends) bytes zero lt = refl
slice_get-pieces from (end ∷ ends) bytes (suc zero) lt = slice_get-pieces end ends bytes 0 (omega arith)
slice_get-pieces from (end ∷ ends) bytes (suc (suc k)) lt = slice_get-pieces end ends bytes (suc k) (omega arith)

both : (a b : Bool) (r : Option ℕ) (place : ℕ) → (if a && b then r else Some place) ≡ None → (a ≡ true) × (b ≡ true) × (r ≡ None)
both true true r place h = (refl, refl, h)
both true false r place h = cc h
both false b r place h = cc h

first_fits : (most before place x : ℕ) (xs : List ℕ) → bad_end_after most before place (x ∷ xs) ≡ None → (before ≤ x) × (x ≤ most) × (bad_end_after most x (place + 1) xs ≡ None)
first_fits most before place x xs h =
    let b = both (nat_le before x) (nat_le x most) (bad_end_after most x (place + 1) xs) place h in
    (leb-true before x b.0, leb-true x most b.1, b.2)

-- each piece starts at or before its end, and ends within the bytes
pub piece_fits : (xs : List ℕ) (most before place k : ℕ) → bad_end_after most before place xs ≡ None → k < length xs → (start_of before xs k ≤ get_or xs k 0) × (get_or xs k 0 ≤ most)
piece_fits [] most before place k h lt = absurd (omega arith)
piece_fits (x ∷ xs) most before place zero h lt = let s = first_fits most before place x xs h in (s.0, s.1)
piece_fits (x ∷ xs) most before place (suc zero) h lt = piece_fits xs most x (place + 1) 0 (first_fits most before place x xs h).2 (omega arith)
piece_fits (x ∷ xs) most before place (suc (suc k)) h lt = piece_fits xs most x (place + 1) (suc k) (first_fits most before place x xs h).2 (omega arith)

module _ {X : Type 0} where
  pub map-zip : (ids : List ℕ) (values : List X) → length values ≡ length ids → map (λ (value : ℕ × X). value.0) (zip ids values) ≡ ids
  map-zip [] values e = refl
  map-zip (id ∷ ids) [] e = absurd (omega (arith, e))
  map-zip (id ∷ ids) (value ∷ values) e = ap (λ (xs : List ℕ). id ∷ xs) (map-zip ids values (omega (arith, e)))

  pub length-zip : (ids : List ℕ) (values : List X) → length values ≡ length ids → length (zip ids values) ≡ length ids
  length-zip [] values e = refl
  length-zip (id ∷ ids) [] e = absurd (omega (arith, e))
  length-zip (id ∷ ids) (value ∷ values) e = ap suc (length-zip ids values (omega (arith, e)))

  pub slice_get-zip : (ids : List ℕ) (values : List X) (k id : ℕ) (value : X) → slice_get ids k ≡ Some id → slice_get values k ≡ Some value → slice_get (zip ids values) k ≡ Some (id, value)
  slice_get-zip [] values k id value h g = cc (h)
  slice_get-zip (x ∷ ids) [] k id value h g = cc (g)
  slice_get-zip (x ∷ ids) (y ∷ values) zero id value h g = cc
  slice_get-zip (x ∷ ids) (y ∷ values) (suc k) id value h g = slice_get-zip ids values k id value h g

  -- the first value of an id
  pub lookup-zip : (ids : List ℕ) (values : List X) (id k : ℕ) (value : X) → slice_get values k ≡ Some value → k < length ids → get_or ids k 0 ≡ id → ((i : ℕ) → i < k → get_or ids i 0 ≢ id) → lookup (nat_eq id) (zip ids values) ≡ Some value
  lookup-zip [] values id k value h lt e others = absurd (omega arith)
  lookup-zip (x ∷ ids) [] id k value h lt e others = cc (h)
  lookup-zip (x ∷ ids) (y ∷ values) id zero value h lt e others = let t : nat_eq id x ≡ true = eq-eqb id x (sym e) in rw t h
  lookup-zip (x ∷ ids) (y ∷ values) id (suc k) value h lt e others =
      let t : nat_eq id x ≡ false = ne_eqb id x (λ same. others 0 (omega arith) (sym same)) in
      rw t (lookup-zip ids values id k value h (omega arith) e (λ i less. others (suc i) (omega arith)))

  pub lookup-zip-none : (ids : List ℕ) (values : List X) (id : ℕ) → ((i : ℕ) → i < length ids → get_or ids i 0 ≢ id) → lookup (nat_eq id) (zip ids values) ≡ None
  lookup-zip-none [] values id others = refl
  lookup-zip-none (x ∷ ids) [] id others = refl
  lookup-zip-none (x ∷ ids) (y ∷ values) id others =
      let t : nat_eq id x ≡ false = ne_eqb id x (λ same. others 0 (omega arith) (sym same)) in
      rw t (lookup-zip-none ids values id (λ i less. others (suc i) (omega arith)))

pub any-at : (xs : List ℕ) (id k : ℕ) → k < length xs → get_or xs k 0 ≡ id → list_any (nat_eq id) xs ≡ true
any-at [] id k lt e = absurd (omega arith)
any-at (x ∷ xs) id zero lt e = let t : nat_eq id x ≡ true = eq-eqb id x (sym e) in rw t refl
any-at (x ∷ xs) id (suc k) lt e = or_right (nat_eq id x) (list_any (nat_eq id) xs) (any-at xs id k (omega arith) e)

pub any-none : (xs : List ℕ) (id : ℕ) → ((i : ℕ) → i < length xs → get_or xs i 0 ≢ id) → list_any (nat_eq id) xs ≡ false
any-none [] id others = refl
any-none (x ∷ xs) id others =
    let t : nat_eq id x ≡ false = ne_eqb id x (λ same. others 0 (omega arith) (sym same)) in
    rw t (any-none xs id (λ i less. others (suc i) (omega arith)))

has_value : (row : Row) (id : ℕ) (value : List ℕ) → lookup (nat_eq id) row.0 ≡ Some value → field_of row id ≡ Some (Some value)
has_value row id value e = ap (λ (o : Option (List ℕ)). field_among o (list_any (nat_eq id) row.1)) e

has_null : (row : Row) (id : ℕ) → lookup (nat_eq id) row.0 ≡ None → list_any (nat_eq id) row.1 ≡ true → field_of row id ≡ Some None
has_null row id e t = ap (λ (o : Option (List ℕ)). field_among o (list_any (nat_eq id) row.1)) e ∙ ap (field_among None) t

has_none : (row : Row) (id : ℕ) → lookup (nat_eq id) row.0 ≡ None → list_any (nat_eq id) row.1 ≡ false → field_of row id ≡ None
has_none row id e t = ap (λ (o : Option (List ℕ)). field_among o (list_any (nat_eq id) row.1)) e ∙ ap (field_among None) t

-- what a row of these parts has
module _ (ids nulls ends values : List ℕ) (row : Row) (each : length ends ≡ length ids) (is : row_of ids nulls ends values ≡ row) where
  pub same_count : length (pieces 0 ends values) ≡ length ids
  same_count = length-pieces 0 ends values ∙ each

  pub ids_are : ids ++ nulls ≡ ids_of row
  ids_are = ap (λ (front : List ℕ). front ++ nulls) (sym (map-zip ids (pieces 0 ends values) same_count)) ∙ ap ids_of is

  pub values_count : length ids ≡ length row.0
  values_count = sym (length-zip ids (pieces 0 ends values) same_count) ∙ ap (λ (r : Row). length r.0) is

  pub value_is : (k id : ℕ) (value : List ℕ) → k < length ids → id ≡ get_or ids k 0 → slice_get (pieces 0 ends values) k ≡ Some value → slice_get row.0 k ≡ Some (id, value)
  value_is k id value lt e piece =
      let here : slice_get ids k ≡ Some id = slice_get-get_or ids k 0 lt ∙ ap Some (sym e) in
      sym (ap (λ (r : Row). slice_get r.0 k) is) ∙ slice_get-zip ids (pieces 0 ends values) k id value here piece

  pub lookup_is_value : (k id : ℕ) (value : List ℕ) → first_fall ids ≡ None → k < length ids → get_or ids k 0 ≡ id → slice_get (pieces 0 ends values) k ≡ Some value → Some value ≡ lookup (nat_eq id) row.0
  lookup_is_value k id value rise lt e piece =
      let found : lookup (nat_eq id) (zip ids (pieces 0 ends values)) ≡ Some value = lookup-zip ids (pieces 0 ends values) id k value piece lt e (λ i less same. absurd (omega (arith, rising ids i k rise less lt))) in
      sym found ∙ ap (λ (r : Row). lookup (nat_eq id) r.0) is

  pub lookup_is_none : (id : ℕ) → ((i : ℕ) → i < length ids → get_or ids i 0 ≢ id) → None ≡ lookup (nat_eq id) row.0
  lookup_is_none id others = sym (lookup-zip-none ids (pieces 0 ends values) id others) ∙ ap (λ (r : Row). lookup (nat_eq id) r.0) is

  pub field_is_value : (k id : ℕ) (value : List ℕ) → first_fall ids ≡ None → k < length ids → get_or ids k 0 ≡ id → slice_get (pieces 0 ends values) k ≡ Some value → Some (Some value) ≡ field_of row id
  field_is_value k id value rise lt e piece =
      let found : lookup (nat_eq id) (zip ids (pieces 0 ends values)) ≡ Some value = lookup-zip ids (pieces 0 ends values) id k value piece lt e (λ i less same. absurd (omega (arith, rising ids i k rise less lt))) in
      sym (has_value (row_of ids nulls ends values) id value found) ∙ ap (λ (r : Row). field_of r id) is

  pub field_is_null : (k id : ℕ) → ((i : ℕ) → i < length ids → get_or ids i 0 ≢ id) → k < length nulls → get_or nulls k 0 ≡ id → Some None ≡ field_of row id
  field_is_null k id others lt e = sym (has_null (row_of ids nulls ends values) id (lookup-zip-none ids (pieces 0 ends values) id others) (any-at nulls id k lt e)) ∙ ap (λ (r : Row). field_of r id) is

  pub field_is_none : (id : ℕ) → ((i : ℕ) → i < length ids → get_or ids i 0 ≢ id) → ((i : ℕ) → i < length nulls → get_or nulls i 0 ≢ id) → None ≡ field_of row id
  field_is_none id others other_nulls = sym (has_none (row_of ids nulls ends values) id (lookup-zip-none ids (pieces 0 ends values) id others) (any-none nulls id other_nulls)) ∙ ap (λ (r : Row). field_of r id) is

  pub id_is : (k id : ℕ) → k < length ids → id ≡ get_or ids k 0 → slice_get (ids_of row) k ≡ Some id
  id_is k id lt e =
      let within : k < length (ids ++ nulls) = omega (arith, length-append ids nulls) in
      subst (λ (all : List ℕ). slice_get all k ≡ Some id) ids_are (slice_get-get_or (ids ++ nulls) k 0 within ∙ ap Some (get_or-append ids nulls 0 k lt ∙ sym e))

  pub null_id_is : (k id : ℕ) → length ids ≤ k → k < length (ids_of row) → id ≡ get_or nulls (k - length ids) 0 → slice_get (ids_of row) k ≡ Some id
  null_id_is k id le lt e =
      let within : k < length (ids ++ nulls) = omega (arith, ap length ids_are) in
      subst (λ (all : List ℕ). slice_get all k ≡ Some id) ids_are (slice_get-get_or (ids ++ nulls) k 0 within ∙ ap Some (get_or-append_right ids nulls k 0 le ∙ sym e))
