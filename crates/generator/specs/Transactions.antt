-- Transactions on one row, as Percolator writes them: a prewrite, and then a commit or a rollback. Keys and records are TiKV's.
use Rattle.std.specs.Prelude.{◌≡◌, ℕ, suc, ◌^◌, ◌<◌, ℤ, true, false, List, [], ◌∷◌, ◌++◌, length, Option, Some, None, IfSome, FitsSigned}
use Rattle.std.specs.Int.{w64}
use Rattle.kv_codec.specs.Spelling.{key, timestamp, write, lock}
use Rattle.kv_codec.specs.declared.records.LockKind.{LockKind}
use Rattle.kv_codec.specs.declared.records.LockKind.TheVariants as lock_kind
use Rattle.kv_codec.specs.declared.records.WriteKind.{WriteKind}
use Rattle.kv_codec.specs.declared.records.WriteKind.TheVariants as write_kind
use Rattle.log_codec.specs.declared.entry.Family.{Family}
use Rattle.log_codec.specs.declared.entry.Family.TheVariants as family
use Rattle.log_codec.specs.declared.entry.Op.{Op}
use Rattle.log_codec.specs.declared.entry.Entry.{Entry}
use Rattle.log_codec.specs.declared.entry.Body.TheVariants as body
use Rattle.column_block.specs.declared.column.Column.{Column}
use Rattle.committed_log.specs.Admission.{row_fault_of}
use Rattle.committed_log.specs.declared.region.Descriptor.{Descriptor}
use Rattle.committed_log.specs.Log.{Log, end}
use Rattle.committed_log.specs.Regions.{region}
use Rattle.committed_log.specs.declared.region.Region.TheVariants.{Live}
use Rattle.committed_log.specs.Store.{Store, last_commit, value}

-- what a transaction does to its row: a put has its value in its write record, or in the default family
pub data Change : Type 0 where
  Delete : Change
  PutShort : List ℕ → Change
  PutLong : List ℕ → Change

pub record Transaction : Type 0 where
  pub handle : ℤ
  pub start : ℕ
  pub commit : ℕ
  pub change : Change

abbrev pub lock_kind_of : Change → LockKind
lock_kind_of Delete = lock_kind.Delete
lock_kind_of (PutShort value) = lock_kind.Put
lock_kind_of (PutLong value) = lock_kind.Put

abbrev pub write_kind_of : Change → WriteKind
write_kind_of Delete = write_kind.Delete
write_kind_of (PutShort value) = write_kind.Put
write_kind_of (PutLong value) = write_kind.Put

abbrev pub short_of : Change → Option (List ℕ)
short_of Delete = None
short_of (PutShort value) = Some value
short_of (PutLong value) = None

-- ---- ops

abbrev pub put : Family → List ℕ → List ℕ → Op
put family key value = record { put = true; family = family; key = key; value = value }

abbrev pub delete : Family → List ℕ → Op
delete family key = record { put = false; family = family; key = key; value = [] }

abbrev pub timed_key : ℤ → ℤ → ℕ → List ℕ
timed_key table handle ts = key table handle ++ timestamp ts

-- the lock's primary is its own row
abbrev pub lock_op : ℤ → ℕ → Transaction → Op
lock_op table ttl t = put family.Lock (key table t.handle) (lock (record { kind = lock_kind_of t.change; primary = key table t.handle; start = t.start; ttl = ttl }))

abbrev pub unlock_op : ℤ → Transaction → Op
unlock_op table t = delete family.Lock (key table t.handle)

abbrev pub write_op : ℤ → Transaction → Op
write_op table t = put family.Write (timed_key table t.handle t.commit) (write (record { kind = write_kind_of t.change; start = t.start; short = short_of t.change }))

-- at the start's timestamp, so that the transaction can't commit any more
abbrev pub rollback_op : ℤ → Transaction → Op
rollback_op table t = put family.Write (timed_key table t.handle t.start) (write (record { kind = write_kind.Rollback; start = t.start; short = None }))

-- ---- the ops of an entry

abbrev pub prewrite_of : ℤ → ℕ → Transaction → Change → List Op
prewrite_of table ttl t (PutLong value) = put family.Default (timed_key table t.handle t.start) value ∷ lock_op table ttl t ∷ []
prewrite_of table ttl t (PutShort value) = lock_op table ttl t ∷ []
prewrite_of table ttl t Delete = lock_op table ttl t ∷ []

abbrev pub prewrite : ℤ → ℕ → Transaction → List Op
prewrite table ttl t = prewrite_of table ttl t t.change

abbrev pub commit : ℤ → Transaction → List Op
commit table t = write_op table t ∷ unlock_op table t ∷ []

-- a value in the default family goes with the lock
abbrev pub rollback_of : ℤ → Transaction → Change → List Op
rollback_of table t (PutLong value) = rollback_op table t ∷ delete family.Default (timed_key table t.handle t.start) ∷ unlock_op table t ∷ []
rollback_of table t (PutShort value) = rollback_op table t ∷ unlock_op table t ∷ []
rollback_of table t Delete = rollback_op table t ∷ unlock_op table t ∷ []

abbrev pub rollback : ℤ → Transaction → List Op
rollback table t = rollback_of table t t.change

abbrev pub write_entry : ℕ → ℕ → List Op → Entry
write_entry r index ops = record { region = r; index = index; body = body.Write ops }

-- ---- what can be written and where

-- each number is one of its type, and a short value has a length of one byte
pub record Fits (t : Transaction) : Type 0 where
  pub handle : FitsSigned w64 t.handle
  pub start : t.start < 2 ^ 64
  pub commit : t.commit < 2 ^ 64
  pub short : IfSome (short_of t.change) (λ value. length value < 256)

-- an entry with this index is the next one of a live region
pub record IsNext (log : Log) (r index : ℕ) (d : Descriptor) : Type 0 where
  pub room : length log.entries < 2 ^ 20
  pub live : region (end log).regions r ≡ Live d
  pub follows : index ≡ suc d.index

-- what a commit puts is a row of the table, and a long value stands in the default family
abbrev pub HasRow : List Column → Store → Transaction → Change → Type 0
HasRow schema s t Delete = Unit {0}
HasRow schema s t (PutShort bytes) = row_fault_of schema bytes ≡ None
HasRow schema s t (PutLong bytes) = (row_fault_of schema bytes ≡ None) × (value s.values t.handle t.start ≡ Some bytes)

-- a transaction may commit: later than the last commit on its row
pub record MayCommit (schema : List Column) (s : Store) (t : Transaction) : Type 0 where
  pub later : IfSome (last_commit s.commits t.handle) (λ c. c.ts < t.commit)
  pub row : HasRow schema s t t.change
