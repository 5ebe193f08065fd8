-- The bytes of a row.
use Rattle.std.specs.Prelude.{◌≡◌, ◌<◌, ◌^◌, ℕ, ◌+◌, Bool, ◌||◌, nat_lt, if◌then◌else◌, None, List, [], ◌∷◌, ◌++◌, length, map}
use Rattle.std.specs.List.{flat_map, list_any, sum_by}
use Rattle.byteorder.specs.Endian.{little_bytes}
use Rattle.column_block.specs.Rising.{first_fall}
use Rattle.row_codec.specs.Rows.{Row}

abbrev pub keys_of : List (ℕ × List ℕ) → List ℕ
keys_of values = map (λ (value : ℕ × List ℕ). value.0) values

-- the bytes of all values
abbrev pub value_bytes : Row → ℕ
value_bytes row = sum_by (λ (value : ℕ × List ℕ). length value.1) row.0

-- What can be written: the ids rise in each list, and the counts and the bytes of the values fit their fields.
pub record IsWritable (row : Row) : Type 0 where
  pub rise : first_fall (keys_of row.0) ≡ None
  pub nulls_rise : first_fall row.1 ≡ None
  pub few : length row.0 + length row.1 < 2 ^ 16
  pub small : value_bytes row < 2 ^ 32

-- where each value ends, the first of which starts at `from`
abbrev pub ends_of : ℕ → List (ℕ × List ℕ) → List ℕ
ends_of from [] = []
ends_of from (value ∷ values) = (from + length value.1) ∷ ends_of (from + length value.1) values

abbrev pub values_of : List (ℕ × List ℕ) → List ℕ
values_of values = flat_map (λ (value : ℕ × List ℕ). value.1) values

-- numbers of so many bytes each, little-endian
abbrev pub packed : ℕ → List ℕ → List ℕ
packed width numbers = flat_map (little_bytes width) numbers

-- an id is above 255, or the values have more than 65,535 bytes
abbrev pub is_big : Row → Bool
is_big row = list_any (λ (value : ℕ × List ℕ). nat_lt 255 value.0) row.0 || nat_lt 65535 (value_bytes row) || list_any (nat_lt 255) row.1

abbrev pub head_bytes : ℕ → ℕ → ℕ → List ℕ
head_bytes flags count null_count = (128 ∷ flags ∷ []) ++ little_bytes 2 count ++ little_bytes 2 null_count

abbrev pub body_bytes : ℕ → ℕ → Row → List ℕ
body_bytes id end row = packed id (keys_of row.0) ++ packed id row.1 ++ packed end (ends_of 0 row.0) ++ values_of row.0

unfoldable pub row_bytes : Row → List ℕ
row_bytes row =
    if is_big row then head_bytes 1 (length row.0) (length row.1) ++ body_bytes 4 4 row
    else head_bytes 0 (length row.0) (length row.1) ++ body_bytes 1 2 row
