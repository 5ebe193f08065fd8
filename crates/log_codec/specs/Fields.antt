-- Fields of a log. A place is counted from the file's first byte; `end` is the place behind the bytes at hand, so that a field's place is `end` less the number of bytes from it on.
use Rattle.std.specs.Prelude.{ℕ, ◌-◌, List, [], ◌∷◌, length, take, drop, nat_lt, ◌||◌, if◌then◌else◌, Result, Ok, Err}
use Rattle.std.specs.Int.{Width}
use Rattle.flash_list.specs.Steps.{◌>>=◌}
use Rattle.flash_list.specs.Fields.{number_at}
use Rattle.log_codec.specs.declared.fault.FrameError.{FrameError}
use Rattle.log_codec.specs.declared.fault.FrameError.TheVariants.{Bad}

-- the fault of the field with which these bytes begin
abbrev pub passes : ℕ → List ℕ → FrameError
passes end bytes = Bad (end - length bytes)

-- a number from least to greatest
unfoldable pub number_in : Width → ℕ → ℕ → FrameError → ℕ → List ℕ → Result (ℕ × List ℕ) FrameError
number_in width least greatest fault end bytes = do
  n ← number_at width fault bytes
  if nat_lt n.0 least || nat_lt greatest n.0 then Err (passes end bytes) else Ok n

-- one byte, which is a number too
unfoldable pub byte_in : ℕ → ℕ → FrameError → ℕ → List ℕ → Result (ℕ × List ℕ) FrameError
byte_in least greatest fault end [] = Err fault
byte_in least greatest fault end (b ∷ rest) = if nat_lt b least || nat_lt greatest b then Err (passes end (b ∷ rest)) else Ok (b, rest)

-- so many bytes of the payload that ends at this place
unfoldable pub bytes_at : ℕ → ℕ → List ℕ → Result (List ℕ × List ℕ) FrameError
bytes_at end len bytes = if nat_lt (length bytes) len then Err (passes end bytes) else Ok (take len bytes, drop len bytes)
