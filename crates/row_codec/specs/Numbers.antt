-- Packed numbers, and the order that they stand in.
use Rattle.std.specs.Prelude.{ℕ, zero, suc, ◌+◌, ◌&&◌, nat_le, if◌then◌else◌, Option, Some, None, List, [], ◌∷◌, drop}
use Rattle.byteorder.specs.Endian.{little_number}
use Rattle.row_codec.specs.declared.numbers.Width.{Width}
use Rattle.row_codec.specs.declared.numbers.Width.TheVariants.{One, Two, Four}

abbrev pub bytes_each : Width → ℕ
bytes_each One = 1
bytes_each Two = 2
bytes_each Four = 4

-- so many numbers of so many bytes each, little-endian
unfoldable pub numbers : ℕ → ℕ → List ℕ → List ℕ
numbers width zero bytes = []
numbers width (suc count) bytes = little_number width bytes ∷ numbers width count (drop width bytes)

-- the place of the first number that is below the one before it, or above the greatest that may be
abbrev pub bad_end_after : ℕ → ℕ → ℕ → List ℕ → Option ℕ
bad_end_after most before place [] = None
bad_end_after most before place (x ∷ xs) = if nat_le before x && nat_le x most then bad_end_after most x (place + 1) xs else Some place

abbrev pub first_bad_end : ℕ → List ℕ → Option ℕ
first_bad_end most ends = bad_end_after most 0 0 ends
