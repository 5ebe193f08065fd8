-- How a list is written: the one spelling of its values.
use Rattle.std.specs.Prelude.{ℕ, zero, suc, ℤ, ◌+◌, ◌-◌, ◌*◌, ◌^◌, ◌/◌, ◌%◌, Bool, false, not, ◌==◌, nat_eq, nat_lt, List, [], ◌∷◌, ◌++◌, length, map, take, get_or, Option, if◌then◌else◌}
use Rattle.std.specs.Int.{w64, cast_unsigned}
use Rattle.std.specs.Ordering.{int_eq}
use Rattle.std.specs.Option.{is_none}
use Rattle.std.specs.List.{list_all}
use Rattle.std.specs.Cmp.Lexicographic.{pointwise}
use Rattle.column_codec.specs.declared.list.ColumnList.{ColumnList}
use Rattle.column_codec.specs.declared.list.ColumnList.TheVariants as list
use Rattle.column_codec.specs.Numbers.{folded}
use Rattle.column_codec.specs.Nulls.{bitmap_len}
use Rattle.column_codec.specs.Lists.{given, mode_of}

-- what stands behind a number's first byte, in at most so many bytes and one
unfoldable pub higher : ℕ → ℕ → List ℕ
higher zero n = n ∷ []
higher (suc more) n = if nat_lt n 128 then n ∷ [] else (128 + n % 128) ∷ higher more (n / 128)

-- the shortest spelling of a number, the low seven bits first
unfoldable pub number : ℕ → List ℕ
number n = if nat_lt n 128 then n ∷ [] else (128 + n % 128) ∷ higher 8 (n / 128)

-- an unsigned number behind this one, by its difference modulo 2^64
unfoldable pub uint : ℕ → ℕ → List ℕ
uint before n = number (folded ((n + (2 ^ 64 - before)) % 2 ^ 64))

-- a signed number behind one with this two's complement
unfoldable pub int : ℕ → ℤ → List ℕ
int before n = uint before (cast_unsigned w64 n)

unfoldable pub text : Unit {0} → List ℕ → List ℕ
text _ bytes = number (length bytes) ++ bytes

-- ---- nulls

-- the bit of value i, which is a spare one past the end
abbrev pub bit : List Bool → ℕ → ℕ
bit nulls i = if get_or nulls i false then 1 else 0

-- the byte with the bits of eight values from value i on
unfoldable pub byte : List Bool → ℕ → ℕ
byte nulls i = bit nulls i + 2 * bit nulls (i + 1) + 4 * bit nulls (i + 2) + 8 * bit nulls (i + 3) + 16 * bit nulls (i + 4) + 32 * bit nulls (i + 5) + 64 * bit nulls (i + 6) + 128 * bit nulls (i + 7)

-- so many bytes from byte j on
abbrev pub bytes_from : List Bool → ℕ → ℕ → List ℕ
bytes_from nulls j zero = []
bytes_from nulls j (suc count) = byte nulls (8 * j) ∷ bytes_from nulls (j + 1) count

abbrev pub bitmap : List Bool → List ℕ
bitmap nulls = bytes_from nulls 0 (bitmap_len (length nulls))

-- 0 where no value is null, else 1 and the bitmap
unfoldable pub null_part : List Bool → List ℕ
null_part nulls = if list_all not nulls then 0 ∷ [] else 1 ∷ bitmap nulls

abbrev pub are_null : {X : Type 0} → List (Option X) → List Bool
are_null values = map is_none values

-- ---- lists

-- one value behind the other; each tells the state in which the next one is written
abbrev pub each : {S X : Type 0} → (S → X → List ℕ) → (X → S) → S → List X → List ℕ
each write next state [] = []
each write next state (x ∷ others) = write state x ++ each write next (next x) others

-- mode 0 writes all values, and mode 1 one for all
abbrev pub shown : {X : Type 0} → ℕ → List X → List X
shown mode values = if mode == 0 then values else take 1 values

abbrev pub values : {S X : Type 0} → (S → X → List ℕ) → (X → S) → S → (X → X → Bool) → List (Option X) → List ℕ
values write next start same list =
    let mode = mode_of same (given list) in
    mode ∷ (null_part (are_null list) ++ each write next start (shown mode (given list)))

unfoldable pub ints : List (Option ℤ) → List ℕ
ints list = values int (cast_unsigned w64) 0 int_eq list

unfoldable pub uints : List (Option ℕ) → List ℕ
uints list = values uint (λ n. n) 0 nat_eq list

unfoldable pub texts : List (Option (List ℕ)) → List ℕ
texts list = values text (λ _. tt {0}) (tt {0}) (pointwise nat_eq) list

unfoldable pub spelled : ColumnList → List ℕ
spelled (list.Int values) = ints values
spelled (list.Uint values) = uints values
spelled (list.Bytes values) = texts values
