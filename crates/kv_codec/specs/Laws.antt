-- Writing and reading agree, and keys are in the order of handles.
use Rattle.std.specs.Prelude.{◌≡◌, ℕ, ℤ, ◌^◌, ◌<◌, List, ◌++◌, Option, Some, Result, Ok, FitsSigned}
use Rattle.std.specs.Int.{w64}
use Rattle.std.specs.Int.Signed.{◌<ℤ◌}
use Rattle.std.specs.Ordering.{nat_cmp}
use Rattle.std.specs.Cmp.Lexicographic.{slice_cmp}
use Rattle.std.specs.declared.cmp.Ordering.TheVariants.{Less}
use Rattle.kv_codec.specs.Keys.{record_at, parts_at}
use Rattle.kv_codec.specs.Records.{Write, LockRecord, write_at, lock_at}
use Rattle.kv_codec.specs.Spelling as spelling

-- A record key tells its handle.
abbrev pub KeysAreFound : Type 0
KeysAreFound = (table handle : ℤ) → FitsSigned w64 table → FitsSigned w64 handle → record_at table (spelling.key table handle) ≡ Ok (Some handle)

-- A timestamp is split off again from whatever it was put behind.
abbrev pub TimestampsAreSplit : Type 0
TimestampsAreSplit = (key : List ℕ) (ts : ℕ) → ts < 2 ^ 64 → parts_at (key ++ spelling.timestamp ts) ≡ Ok (key, ts)

-- The keys of a table are in the order of their handles, byte by byte.
abbrev pub KeysAreInOrder : Type 0
KeysAreInOrder = (table a b : ℤ) → FitsSigned w64 a → FitsSigned w64 b → a <ℤ b → slice_cmp nat_cmp (spelling.key table a) (spelling.key table b) ≡ Less

abbrev pub WritesAreReadAgain : Type 0
WritesAreReadAgain = (w : Write) (rest : List ℕ) → spelling.Fits w → spelling.MayFollow w.short rest → write_at (spelling.write w ++ rest) ≡ Ok w

abbrev pub LocksAreReadAgain : Type 0
LocksAreReadAgain = (l : LockRecord) (rest : List ℕ) → spelling.LockFits l → lock_at (spelling.lock l ++ rest) ≡ Ok l
