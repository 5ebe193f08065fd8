-- The numbers at the front of some bytes, big-endian.
use Rattle.std.specs.Prelude.{ℕ, List, length, take, drop, nat_lt, if◌then◌else◌, Result, Ok, Err}
use Rattle.std.specs.Int.{Width, byte_len, from_be_bytes}

-- the number of this width at the front and what stands behind it, or this fault where there are fewer bytes
unfoldable pub number_at : {E : Type 0} → Width → E → List ℕ → Result (ℕ × List ℕ) E
number_at width fault bytes = if nat_lt (length bytes) (byte_len width) then Err fault else Ok (from_be_bytes width (take (byte_len width) bytes), drop (byte_len width) bytes)
