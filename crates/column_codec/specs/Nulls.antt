-- Which values of a list are null, by a bitmap.
use Rattle.std.specs.Prelude.{ℕ, zero, suc, ◌+◌, ◌-◌, ◌*◌, ◌^◌, ◌/◌, ◌%◌, Bool, ◌||◌, ◌==◌, List, [], ◌∷◌, length, take, drop, nat_lt, nat_le, slice_index, if◌then◌else◌, Result, Ok, Err}
use Rattle.std.specs.List.{list_all}
use Rattle.flash_list.specs.Steps.{◌>>=◌}
use Rattle.column_codec.specs.declared.fault.CodecError.{CodecError}
use Rattle.column_codec.specs.declared.fault.CodecError.TheVariants.{Short, BadByte}
use Rattle.column_codec.specs.Numbers.{bad_at}

-- Bit i modulo 8 of byte i / 8 is set where value i is null. Past the bitmap's end none is.
abbrev pub is_null : List ℕ → ℕ → Bool
is_null bitmap i = slice_index bitmap (i / 8) / 2 ^ (i % 8) % 2 == 1

-- the same for so many values from value i on
abbrev pub nulls_from : List ℕ → ℕ → ℕ → List Bool
nulls_from bitmap i zero = []
nulls_from bitmap i (suc count) = is_null bitmap i ∷ nulls_from bitmap (i + 1) count

-- a byte 0 or 1
unfoldable pub flag_at : ℕ → List ℕ → Result (ℕ × List ℕ) CodecError
flag_at end [] = Err (Short end)
flag_at end (b ∷ rest) = if nat_lt 1 b then Err (bad_at end (b ∷ rest)) else Ok (b, rest)

-- the number of bytes with a bit for each value
abbrev pub bitmap_len : ℕ → ℕ
bitmap_len count = (count + 7) / 8

-- whether a spare bit of the last byte is set, or no bit at all
abbrev pub is_no_bitmap : ℕ → List ℕ → Bool
is_no_bitmap count bitmap =
    let last = length bitmap - 1 in
    nat_le (2 ^ (count - 8 * last)) (slice_index bitmap last) || list_all (λ b. b == 0) bitmap

-- a bitmap of so many values, at least one, of which one is null
unfoldable pub bits_at : ℕ → ℕ → List ℕ → Result (List ℕ × List ℕ) CodecError
bits_at end count bytes =
    let len = bitmap_len count in
    if nat_lt (length bytes) len then Err (Short end)
    else if is_no_bitmap count (take len bytes) then Err (BadByte (end - length bytes + (len - 1)))
    else Ok (take len bytes, drop len bytes)

-- the null byte and the bitmap behind a 1; where no value is null, 0 and no bitmap
unfoldable pub bitmap_at : ℕ → ℕ → List ℕ → Result (List ℕ × List ℕ) CodecError
bitmap_at end count bytes = do
  flag ← flag_at end bytes
  if flag.0 == 0 then Ok ([], flag.1) else if count == 0 then Err (bad_at end bytes) else bits_at end count flag.1
