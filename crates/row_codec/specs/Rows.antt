-- Rows, in row format 2.
use Rattle.std.specs.Prelude.{Bool, true, false, ◌≡◌, ◌<◌, ◌^◌, ℕ, zero, suc, ◌+◌, ◌-◌, ◌*◌, Option, Some, None, ◌==◌, not, ◌%◌, nat_lt, nat_eq, if◌then◌else◌, List, [], ◌∷◌, ◌++◌, length, map, take, drop, slice_index, zip, Result, Ok, Err}
use Rattle.std.specs.List.{list_any}
use Rattle.std.specs.Map.{lookup}
use Rattle.byteorder.specs.Endian.{little_number}
use Rattle.row_codec.specs.declared.row.Field.{Field}
use Rattle.row_codec.specs.declared.row.Field.TheVariants as field
use Rattle.row_codec.specs.declared.row.RowError.{RowError}
use Rattle.row_codec.specs.declared.row.RowError.TheVariants.{Short, Version, Order, Offset}
use Rattle.column_block.specs.Rising.{first_fall}
use Rattle.row_codec.specs.Numbers.{numbers, first_bad_end}

-- a row: the values by the ids of their columns, and the ids of the columns that are null
abbrev pub Row : Type 0
Row = List (ℕ × List ℕ) × List ℕ

-- the pieces of the bytes that end at these offsets
abbrev pub pieces : ℕ → List ℕ → List ℕ → List (List ℕ)
pieces from [] bytes = []
pieces from (end ∷ ends) bytes = take (end - from) (drop from bytes) ∷ pieces end ends bytes

-- where the piece at a place starts
abbrev pub start_of : ℕ → List ℕ → ℕ → ℕ
start_of from ends zero = from
start_of from ends (suc k) = slice_index ends k

abbrev pub row_of : List ℕ → List ℕ → List ℕ → List ℕ → Row
row_of ids nulls ends values = (zip ids (pieces 0 ends values), nulls)

-- What a reader of a row keeps of its parts: the ids rise in each list, and each value lies within the bytes.
pub record AreParts (ids nulls ends values : List ℕ) : Type 0 where
  pub rise : first_fall ids ≡ None
  pub nulls_rise : first_fall nulls ≡ None
  pub within : first_bad_end (length values) ends ≡ None
  pub each_ends : length ends ≡ length ids
  pub few : length ids < 2 ^ 16
  pub few_nulls : length nulls < 2 ^ 16

-- a row, or its first refusal: a fall among the ids, of which so many have a value, one among the null ids, a bad end offset
abbrev pub unless_refused : ℕ → Option ℕ → Option ℕ → Option ℕ → Row → Result Row RowError
unless_refused count (Some at) null_fall bad_end row = Err (Order at)
unless_refused count None (Some at) bad_end row = Err (Order (count + at))
unless_refused count None None (Some at) row = Err (Offset at)
unless_refused count None None None row = Ok row

-- the row of these parts, if the ids rise in each list, and the end offsets don't fall and don't pass the values
unfoldable pub checked_row : List ℕ → List ℕ → List ℕ → List ℕ → Result Row RowError
checked_row ids nulls ends values = unless_refused (length ids) (first_fall ids) (first_fall nulls) (first_bad_end (length values) ends) (row_of ids nulls ends values)

-- the row of n values and m null columns, behind the six bytes of its head; an id and an end offset have so many bytes
unfoldable pub row_behind_head : ℕ → ℕ → ℕ → ℕ → List ℕ → Result Row RowError
row_behind_head id end n m bytes =
    let start = 6 + id * n + id * m + end * n in
    if nat_lt (length bytes) start then Err (Short (length bytes)) else
    checked_row (numbers id n (drop 6 bytes)) (numbers id m (drop (6 + id * n) bytes)) (numbers end n (drop (6 + id * n + id * m) bytes)) (drop start bytes)

-- The row that the bytes are, or why they are none. The head is the version 128, flags of which the lowest bit is that of the big form, and the two counts.
unfoldable pub row_at : List ℕ → Result Row RowError
row_at bytes =
    let n = little_number 2 (drop 2 bytes) in
    let m = little_number 2 (drop 4 bytes) in
    if length bytes == 0 then Err (Short 0) else
    if not (slice_index bytes 0 == 128) then Err (Version (slice_index bytes 0)) else
    if slice_index bytes 1 % 2 == 1 then row_behind_head 4 4 n m bytes else row_behind_head 1 2 n m bytes

-- the ids of the row's columns, those with a value first
abbrev pub ids_of : Row → List ℕ
ids_of row = map (λ (value : ℕ × List ℕ). value.0) row.0 ++ row.1

-- a column's field by its value and by whether it is null: a column that is both has its value
abbrev pub field_among : Option (List ℕ) → Bool → Option (Option (List ℕ))
field_among (Some bytes) null = Some (Some bytes)
field_among None true = Some None
field_among None false = None

-- what the row has in a column, where it has the column: its bytes, or none where it is null
abbrev pub field_of : Row → ℕ → Option (Option (List ℕ))
field_of row id = field_among (lookup (nat_eq id) row.0) (list_any (nat_eq id) row.1)

-- a field as its bytes, or none where it is null
abbrev pub bytes_of : Field → Option (List ℕ)
bytes_of field.Null = None
bytes_of (field.Value bytes) = Some bytes.now
