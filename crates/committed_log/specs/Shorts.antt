-- Admission's machinery.
-- Where a write record has its short value.
use Rattle.std.specs.Prelude.{ℕ, ◌+◌, List, drop, nat_lt}
use Rattle.std.specs.List.{position_or_len}

-- how many bytes a number in LEB128 takes: up to and with the first below 128
abbrev pub number_len : List ℕ → ℕ
number_len bytes = position_or_len (λ b. nat_lt b 128) bytes + 1

-- behind the kind's byte, the start, a `v` and the byte of the value's length
abbrev pub short_place : List ℕ → ℕ
short_place record_bytes = 1 + number_len (drop 1 record_bytes) + 2
