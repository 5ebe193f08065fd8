-- Records of the write family and of the lock family.
use Rattle.std.specs.Prelude.{◌≡◌, ℕ, zero, suc, ◌+◌, ◌-◌, ◌*◌, List, [], ◌∷◌, ◌/◌, ◌%◌, length, take, drop, nat_lt, ◌==◌, if◌then◌else◌, Option, Some, None, Result, Ok, Err}
use Rattle.kv_codec.specs.declared.records.RecordError.{RecordError}
use Rattle.kv_codec.specs.declared.records.RecordError.TheVariants.{Short, Kind, Number}
use Rattle.kv_codec.specs.declared.records.LockKind.{LockKind}
use Rattle.kv_codec.specs.declared.records.LockKind.TheVariants.{Put as PutLock, Delete as DeleteLock, Lock as ReadLock, Pessimistic}
use Rattle.kv_codec.specs.declared.records.WriteKind.{WriteKind}
use Rattle.kv_codec.specs.declared.records.WriteKind.TheVariants.{Put, Delete, Lock, Rollback}
use Rattle.flash_list.specs.Steps.{◌>>=◌}

-- A number at this place, the low seven bits first, in at most so many bytes and one. The last of these is 0 or 1.
unfoldable pub number_at : ℕ → ℕ → List ℕ → Result (ℕ × List ℕ) RecordError
number_at more at [] = Err (Short at)
number_at zero at (b ∷ rest) = if nat_lt 1 b then Err (Number at) else Ok (b, rest)
number_at (suc more) at (b ∷ rest) =
    if nat_lt b 128 then Ok (b, rest)
    else (number_at more (at + 1) rest >>= λ high. Ok (b - 128 + 128 * high.0, high.1))

unfoldable pub kind_at : List ℕ → Result (WriteKind × List ℕ) RecordError
kind_at [] = Err (Short 0)
kind_at (b ∷ rest) =
    if b == 80 then Ok (Put, rest) else if b == 68 then Ok (Delete, rest)
    else if b == 76 then Ok (Lock, rest) else if b == 82 then Ok (Rollback, rest) else Err (Kind b)

-- one byte of length and that many bytes, in a record of this length
unfoldable pub sized_at : ℕ → List ℕ → Result (Option (List ℕ)) RecordError
sized_at len [] = Err (Short len)
sized_at len (size ∷ rest) = if nat_lt (length rest) size then Err (Short len) else Ok (Some (take size rest))

-- the value behind a `v`, in a record of this length; what stands behind it, and any other byte, is passed over
unfoldable pub short_at : ℕ → List ℕ → Result (Option (List ℕ)) RecordError
short_at len [] = Ok None
short_at len (mark ∷ rest) = if mark == 118 then sized_at len rest else Ok None

-- a write record without where it lies in memory
pub record Write : Type 0 where
  pub kind : WriteKind
  pub start : ℕ
  pub short : Option (List ℕ)

unfoldable pub write_at : List ℕ → Result Write RecordError
write_at bytes = do
  kind ← kind_at bytes
  start ← number_at 9 1 kind.1
  short ← short_at (length bytes) start.1
  Ok (record { kind = kind.0; start = start.0; short = short })

-- ---- records of the lock family

-- a lock record without where it lies in memory
pub record LockRecord : Type 0 where
  pub kind : LockKind
  pub primary : List ℕ
  pub start : ℕ
  pub ttl : ℕ

unfoldable pub lock_kind_at : List ℕ → Result (LockKind × List ℕ) RecordError
lock_kind_at [] = Err (Short 0)
lock_kind_at (b ∷ rest) =
    if b == 80 then Ok (PutLock, rest) else if b == 68 then Ok (DeleteLock, rest)
    else if b == 76 then Ok (ReadLock, rest) else if b == 83 then Ok (Pessimistic, rest) else Err (Kind b)

-- a number in a record of this length, at the place where these bytes begin
abbrev pub number_in : ℕ → List ℕ → Result (ℕ × List ℕ) RecordError
number_in len bytes = number_at 9 (len - length bytes) bytes

-- a text with its length before it, in the zigzag form: twice a length, where an odd number is a negative one
unfoldable pub text_at : ℕ → List ℕ → Result (List ℕ × List ℕ) RecordError
text_at len bytes = do
  size ← number_in len bytes
  if size.0 % 2 == 1 then Err (Number (len - length bytes)) else (if nat_lt (length size.1) (size.0 / 2) then Err (Short len) else Ok (take (size.0 / 2) size.1, drop (size.0 / 2) size.1))

-- 0 where the record has ended
unfoldable pub ttl_at : ℕ → List ℕ → Result ℕ RecordError
ttl_at len [] = Ok 0
ttl_at len (b ∷ rest) = number_in len (b ∷ rest) >>= λ ttl. Ok ttl.0

unfoldable pub lock_at : List ℕ → Result LockRecord RecordError
lock_at bytes = do
  kind ← lock_kind_at bytes
  primary ← text_at (length bytes) kind.1
  start ← number_in (length bytes) primary.1
  ttl ← ttl_at (length bytes) start.1
  Ok (record { kind = kind.0; primary = primary.0; start = start.0; ttl = ttl })

-- ---- the program's steps

-- wherever these bytes stand, they are a number and what stands behind it
abbrev pub IsNumber : ℕ → List ℕ → ℕ → List ℕ → Type 0
IsNumber more bytes n rest = (at : ℕ) → number_at more at bytes ≡ Ok (n, rest)
