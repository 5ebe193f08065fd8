-- Fields of a manifest. `end` is the place behind the bytes at hand, so that a field's place is `end` less the number of bytes from it on.
use Rattle.std.specs.Prelude.{ℕ, ℤ, ◌-◌, List, [], ◌∷◌, length, nat_lt, ◌||◌, if◌then◌else◌, Option, Some, None, Result, Ok, Err}
use Rattle.std.specs.Int.{w32, w64, cast_signed}
use Rattle.flash_list.specs.Steps.{◌>>=◌}
use Rattle.flash_list.specs.Fields.{number_at}
use Rattle.flash_types.specs.declared.range.HandleRange.{HandleRange}
use Rattle.manifest_form.specs.declared.fault.Fault.{Fault}
use Rattle.manifest_form.specs.declared.fault.Fault.TheVariants.{At}

-- the fault of the field with which these bytes begin: it isn't allowed, or passes the end
abbrev pub here : ℕ → List ℕ → Fault
here end bytes = At (end - length bytes)

-- one byte from least to greatest
unfoldable pub byte_in : ℕ → ℕ → Fault → ℕ → List ℕ → Result (ℕ × List ℕ) Fault
byte_in least greatest fault end [] = Err fault
byte_in least greatest fault end (b ∷ rest) = if nat_lt b least || nat_lt greatest b then Err (here end (b ∷ rest)) else Ok (b, rest)

-- a number of a record
abbrev pub u32_at : ℕ → List ℕ → Result (ℕ × List ℕ) Fault
u32_at end bytes = number_at w32 (here end bytes) bytes

abbrev pub u64_at : ℕ → List ℕ → Result (ℕ × List ℕ) Fault
u64_at end bytes = number_at w64 (here end bytes) bytes

-- a handle is a number in two's complement
unfoldable pub handle_at : ℕ → List ℕ → Result (ℤ × List ℕ) Fault
handle_at end bytes = u64_at end bytes >>= λ bits. Ok (cast_signed w64 bits.0, bits.1)

-- the byte 1 and a handle, or the byte 0
abbrev pub high_of : ℕ → ℕ → List ℕ → Result (Option ℤ × List ℕ) Fault
high_of end flag bytes = if nat_lt flag 1 then Ok (None, bytes) else (handle_at end bytes >>= λ high. Ok (Some high.0, high.1))

unfoldable pub high_at : ℕ → List ℕ → Result (Option ℤ × List ℕ) Fault
high_at end bytes = byte_in 0 1 (here end bytes) end bytes >>= λ flag. high_of end flag.0 flag.1

-- a low end and a high end
unfoldable pub range_at : ℕ → List ℕ → Result (HandleRange × List ℕ) Fault
range_at end bytes = do
  low ← handle_at end bytes
  high ← high_at end low.1
  Ok (record { low = low.0; high = high.0 }, high.1)
