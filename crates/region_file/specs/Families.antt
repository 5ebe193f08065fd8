-- The default values and the locks of a region in a region file.
use Rattle.std.specs.Prelude.{ℕ, ℤ, Bool, true, ◌&&◌, ◌||◌, ◌==◌, List, length, take, drop, nat_lt, int_lt, int_le, if◌then◌else◌, Option, Some, None, Result, Ok, Err}
use Rattle.std.specs.Int.{w8}
use Rattle.flash_list.specs.Steps.{◌>>=◌, each_at}
use Rattle.flash_list.specs.Fields.{number_at}
use Rattle.flash_types.specs.Ranges.{holds}
use Rattle.flash_types.specs.declared.range.HandleRange.{HandleRange}
use Rattle.kv_codec.specs.declared.records.LockKind.{LockKind}
use Rattle.kv_codec.specs.declared.records.LockKind.TheVariants as kind
use Rattle.committed_log.specs.declared.store.Lock.{Lock}
use Rattle.region_file.specs.declared.fault.TableError.{TableError}
use Rattle.region_file.specs.declared.fault.TableError.TheVariants.{Damaged}
use Rattle.region_file.specs.Fields.{here, u64_at, handle_at}

-- ---- default values, which rise by handle and start

-- whether a value may have this handle, behind one with the key `last`
abbrev pub may_follow : Option (ℤ × ℕ) → ℤ → Bool
may_follow None handle = true
may_follow (Some last) handle = int_le last.0 handle

-- and this start
abbrev pub may_start : Option (ℤ × ℕ) → ℤ → ℕ → Bool
may_start None handle start = true
may_start (Some last) handle start = int_lt last.0 handle || nat_lt last.1 start

-- a handle of the range that may follow
unfoldable pub value_handle_at : ℕ → HandleRange → Option (ℤ × ℕ) → List ℕ → Result (ℤ × List ℕ) TableError
value_handle_at end range last bytes = do
  handle ← handle_at end bytes
  if holds range handle.0 && may_follow last handle.0 then Ok handle else Err (here end bytes)

unfoldable pub start_at : ℕ → Option (ℤ × ℕ) → ℤ → List ℕ → Result (ℕ × List ℕ) TableError
start_at end last handle bytes = do
  start ← u64_at end bytes
  if may_start last handle start.0 then Ok start else Err (here end bytes)

-- a length and as many bytes
unfoldable pub text_at : ℕ → List ℕ → Result (List ℕ × List ℕ) TableError
text_at end bytes = do
  len ← u64_at end bytes
  if nat_lt (length len.1) len.0 then Err (Damaged end) else Ok (take len.0 len.1, drop len.0 len.1)

unfoldable pub value_at : ℕ → HandleRange → Option (ℤ × ℕ) → List ℕ → Result (((ℤ × ℕ) × List ℕ) × List ℕ) TableError
value_at end range last bytes = do
  handle ← value_handle_at end range last bytes
  start ← start_at end last handle.0 handle.1
  text ← text_at end start.1
  Ok (((handle.0, start.0), text.0), text.1)

abbrev pub key_of : {K X : Type 0} → K × X → Option K
key_of e = Some e.0

unfoldable pub each_value_at : ℕ → HandleRange → ℕ → List ℕ → Result (List ((ℤ × ℕ) × List ℕ) × List ℕ) TableError
each_value_at end range count bytes = each_at (value_at end range) key_of count None bytes

-- a count and so many values
unfoldable pub values_at : ℕ → HandleRange → List ℕ → Result (List ((ℤ × ℕ) × List ℕ) × List ℕ) TableError
values_at end range bytes = u64_at end bytes >>= λ count. each_value_at end range count.0 count.1

-- ---- locks, which rise by handle

abbrev pub is_above : Option ℤ → ℤ → Bool
is_above None handle = true
is_above (Some last) handle = int_lt last handle

unfoldable pub lock_handle_at : ℕ → HandleRange → Option ℤ → List ℕ → Result (ℤ × List ℕ) TableError
lock_handle_at end range last bytes = do
  handle ← handle_at end bytes
  if holds range handle.0 && is_above last handle.0 then Ok handle else Err (here end bytes)

-- the bytes of lock records: `P`, `D`, `L` and `S`
abbrev pub kind_of : ℕ → Option LockKind
kind_of byte =
    if byte == 80 then Some kind.Put else if byte == 68 then Some kind.Delete
    else if byte == 76 then Some kind.Lock else if byte == 83 then Some kind.Pessimistic else None

unfoldable pub kind_at : ℕ → List ℕ → Result (LockKind × List ℕ) TableError
kind_at end bytes = do
  byte ← number_at w8 (Damaged end) bytes
  elim (kind_of byte.0) [ None ↦ Err (here end bytes) | Some found ↦ Ok (found, byte.1) ]

unfoldable pub lock_at : ℕ → HandleRange → Option ℤ → List ℕ → Result ((ℤ × Lock) × List ℕ) TableError
lock_at end range last bytes = do
  handle ← lock_handle_at end range last bytes
  kind ← kind_at end handle.1
  start ← u64_at end kind.1
  Ok ((handle.0, record { kind = kind.0; start = start.0 }), start.1)

unfoldable pub each_lock_at : ℕ → HandleRange → ℕ → List ℕ → Result (List (ℤ × Lock) × List ℕ) TableError
each_lock_at end range count bytes = each_at (lock_at end range) key_of count None bytes

unfoldable pub locks_at : ℕ → HandleRange → List ℕ → Result (List (ℤ × Lock) × List ℕ) TableError
locks_at end range bytes = u64_at end bytes >>= λ count. each_lock_at end range count.0 count.1
