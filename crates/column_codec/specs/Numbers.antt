-- Numbers of a list. A number is written as its difference, wrapping at 64 bits, to the number before it, in the zigzag form (0, -1, 1, -2, 2, .. are 0, 1, 2, 3, 4, ..) of LEB128. A place is `end` less the number of bytes from it on.
use Rattle.std.specs.Prelude.{ℕ, zero, suc, ℤ, ◌+◌, ◌-◌, ◌*◌, ◌^◌, ◌/◌, ◌%◌, List, [], ◌∷◌, length, take, drop, nat_lt, ◌==◌, if◌then◌else◌, FitsSigned, Option, IfSome, Result, Ok, Err}
use Rattle.std.specs.Int.{w64, cast_signed}
use Rattle.std.specs.List.{AllByRecursion}
use Rattle.flash_list.specs.Steps.{◌>>=◌}
use Rattle.column_codec.specs.declared.fault.CodecError.{CodecError}
use Rattle.column_codec.specs.declared.fault.CodecError.TheVariants.{Short, BadByte}

-- the fault of the byte with which these bytes begin
abbrev pub bad_at : ℕ → List ℕ → CodecError
bad_at end bytes = BadByte (end - length bytes)

-- what stands behind a number's first byte, the low seven bits first, in at most so many bytes and one: the last isn't 0, since the number could be shorter then, and a tenth byte of the number is 1
unfoldable pub higher_at : ℕ → ℕ → List ℕ → Result (ℕ × List ℕ) CodecError
higher_at more end [] = Err (Short end)
higher_at zero end (b ∷ rest) = if b == 1 then Ok (1, rest) else Err (bad_at end (b ∷ rest))
higher_at (suc more) end (b ∷ rest) =
    if b == 0 then Err (bad_at end (b ∷ rest)) else if nat_lt b 128 then Ok (b, rest)
    else (higher_at more end rest >>= λ high. Ok (b - 128 + 128 * high.0, high.1))

-- a number in its shortest spelling, of at most ten bytes
unfoldable pub number_at : ℕ → List ℕ → Result (ℕ × List ℕ) CodecError
number_at end [] = Err (Short end)
number_at end (b ∷ rest) = if nat_lt b 128 then Ok (b, rest) else (higher_at 8 end rest >>= λ high. Ok (b - 128 + 128 * high.0, high.1))

-- the difference, modulo 2^64, that a zigzag form stands for
abbrev pub unfolded : ℕ → ℕ
unfolded z = if z % 2 == 0 then z / 2 else 2 ^ 64 - 1 - z / 2

-- the zigzag form of a difference, modulo 2^64
abbrev pub folded : ℕ → ℕ
folded d = if nat_lt d (2 ^ 63) then 2 * d else 2 * (2 ^ 64 - 1 - d) + 1

-- an unsigned number behind this one
unfoldable pub uint_at : ℕ → ℕ → List ℕ → Result (ℕ × List ℕ) CodecError
uint_at end before bytes = number_at end bytes >>= λ z. Ok ((before + unfolded z.0) % 2 ^ 64, z.1)

-- a signed number behind one with this two's complement: the same of its own
unfoldable pub int_at : ℕ → ℕ → List ℕ → Result (ℤ × List ℕ) CodecError
int_at end before bytes = uint_at end before bytes >>= λ n. Ok (cast_signed w64 n.0, n.1)

-- signed numbers of 64 bits, and nulls among them
abbrev pub AllFit : List (Option ℤ) → Type 0
AllFit list = AllByRecursion (λ value. IfSome value (FitsSigned w64)) list

-- a text behind its length
unfoldable pub text_at : ℕ → Unit {0} → List ℕ → Result (List ℕ × List ℕ) CodecError
text_at end _ bytes = do
  size ← number_at end bytes
  if nat_lt (length size.1) size.0 then Err (Short end) else Ok (take size.0 size.1, drop size.0 size.1)
