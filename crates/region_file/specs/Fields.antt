-- Fields of a region file. `end` is the file's length, so that a field's place is `end` less the number of bytes from it on. A file that ends inside a field is damaged at its end.
use Rattle.std.specs.Prelude.{ℕ, ℤ, ◌-◌, List, length, nat_lt, ◌||◌, if◌then◌else◌, Option, Some, None, Result, Ok, Err}
use Rattle.std.specs.Int.{w8, w32, w64, cast_signed}
use Rattle.flash_list.specs.Steps.{◌>>=◌}
use Rattle.flash_list.specs.Fields.{number_at}
use Rattle.flash_types.specs.declared.range.HandleRange.{HandleRange}
use Rattle.region_file.specs.declared.fault.TableError.{TableError}
use Rattle.region_file.specs.declared.fault.TableError.TheVariants.{Damaged}

-- the field with which these bytes begin isn't allowed
abbrev pub here : ℕ → List ℕ → TableError
here end bytes = Damaged (end - length bytes)

abbrev pub u32_at : ℕ → List ℕ → Result (ℕ × List ℕ) TableError
u32_at end bytes = number_at w32 (Damaged end) bytes

abbrev pub u64_at : ℕ → List ℕ → Result (ℕ × List ℕ) TableError
u64_at end bytes = number_at w64 (Damaged end) bytes

-- one byte from least to greatest
unfoldable pub byte_in : ℕ → ℕ → ℕ → List ℕ → Result (ℕ × List ℕ) TableError
byte_in least greatest end bytes = do
  byte ← number_at w8 (Damaged end) bytes
  if nat_lt byte.0 least || nat_lt greatest byte.0 then Err (here end bytes) else Ok byte

-- a handle is a number in two's complement
unfoldable pub handle_at : ℕ → List ℕ → Result (ℤ × List ℕ) TableError
handle_at end bytes = u64_at end bytes >>= λ bits. Ok (cast_signed w64 bits.0, bits.1)

-- the byte 1 and a handle, or the byte 0
abbrev pub high_of : ℕ → ℕ → List ℕ → Result (Option ℤ × List ℕ) TableError
high_of end flag bytes = if nat_lt flag 1 then Ok (None, bytes) else (handle_at end bytes >>= λ high. Ok (Some high.0, high.1))

unfoldable pub high_at : ℕ → List ℕ → Result (Option ℤ × List ℕ) TableError
high_at end bytes = byte_in 0 1 end bytes >>= λ flag. high_of end flag.0 flag.1

-- a low end and a high end
unfoldable pub range_at : ℕ → List ℕ → Result (HandleRange × List ℕ) TableError
range_at end bytes = do
  low ← handle_at end bytes
  high ← high_at end low.1
  Ok (record { low = low.0; high = high.0 }, high.1)
