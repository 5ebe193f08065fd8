-- To be believed.
-- Lawful logs.
use Rattle.std.specs.Prelude.{◌≡◌, ◌⊎◌, ℕ, suc, ℤ, Option, Some, None, List, [], ◌∷◌, ◌++◌, length}
use Rattle.column_block.specs.Schemas.{IsSchema}
use Rattle.column_block.specs.declared.column.Column.{Column}
use Rattle.log_codec.specs.Writable.{CanBeWritten, NumbersFit}
use Rattle.log_codec.specs.declared.entry.Entry.{Entry}
use Rattle.committed_log.specs.Admission.{fault_at}
use Rattle.committed_log.specs.Log.{Log, end}
use Rattle.committed_log.specs.Store.{Store, empty, after_entry}
use Rattle.committed_log.specs.declared.unlawful.Unlawful.{Unlawful}
use Rattle.committed_log.specs.declared.unlawful.Unlawful.TheVariants as unlawful

-- an entry that a log file can hold
pub record IsWritable (e : Entry) : Type 0 where
  pub form : CanBeWritten e
  pub numbers : NumbersFit e

-- from position p and the store s on, each entry can be written and has no fault after those before it
abbrev pub AllAdmitted : ℤ → List Column → ℕ → Store → List Entry → Type 0
AllAdmitted table schema p s [] = Unit {0}
AllAdmitted table schema p s (e ∷ es) = (fault_at table schema p s e ≡ None) × AllAdmitted table schema (suc p) (after_entry table p s e) es

abbrev pub AllWritable : List Entry → Type 0
AllWritable [] = Unit {0}
AllWritable (e ∷ es) = IsWritable e × AllWritable es

-- The columns make a schema, and each entry is one that the format can write and that is admitted after those before it.
pub record IsLawful (log : Log) : Type 0 where
  pub schema : IsSchema log.schema
  pub writable : AllWritable log.entries
  pub admitted : AllAdmitted log.table log.schema 0 empty log.entries

-- ---- one more entry

-- what is wrong with an entry, if it is to be the next one
abbrev pub fault : Log → Entry → Option Unlawful
fault log e = fault_at log.table log.schema (length log.entries) (end log) e

abbrev pub pushed : Log → Entry → Log
pushed log e = record log { entries = log.entries ++ e ∷ [] }

-- an error is want of memory, or the fault
abbrev pub IsRefusal : Option Unlawful → Unlawful → Type 0
IsRefusal fault e = (e ≡ unlawful.Memory) ⊎ (fault ≡ Some e)
