-- Admission's machinery.
-- What a `Logs` is seen as, and what its look-up tables hold.
use Rattle.std.specs.Prelude.{◌≡◌, ℕ, ℤ, List, nat_eq}
use Rattle.std.specs.BTreeMap.{get as get_low}
use Rattle.std.specs.HashMap.{get}
use Rattle.std.specs.Ordering.{int_cmp}
use Rattle.column_block.specs.declared.column.Column.{Column}
use Rattle.log_codec.specs.declared.entry.Entry.{Entry}
use Rattle.committed_log.specs.Applied.{next_of}
use Rattle.committed_log.specs.Lawful.{IsLawful}
use Rattle.committed_log.specs.Log.{Log, end}
use Rattle.committed_log.specs.Lows.{AreLows}
use Rattle.committed_log.specs.Nexts.{next_at, Reaches}
use Rattle.committed_log.specs.Regions.{region}
use Rattle.committed_log.specs.Repeats.{AreRepeats}
use Rattle.committed_log.specs.Tables.{Follows}
use Rattle.committed_log.specs.declared.lookups.Lookups.{Lookups}
use Rattle.committed_log.specs.declared.logs.Logs.TheInside.{Inside}

abbrev pub log_with : ℤ → List Column → List Entry → Log
log_with table schema entries = record { table = table; schema = schema; entries = entries }

abbrev pub log_of : Inside → Log
log_of l = log_with l.table l.schema l.entries.items

-- the log is lawful, the tables are those of the store at its end, and each next position, each region's low end and the places of the ops that repeat are noted
pub record AreLookups (log : Log) (x : Lookups) : Type 0 where
  pub lawful : IsLawful log
  pub follows : Follows x.tables (end log)
  pub nexts : (r i : ℕ) → next_at (get nat_eq x.nexts r) i ≡ next_of log r i
  pub reaches : (r : ℕ) → Reaches (region (end log).regions r) (get nat_eq x.nexts r)
  pub lows : AreLows (get_low int_cmp x.lows) (end log).regions
  pub repeats : AreRepeats log x.repeats.items

abbrev pub IsIndexed : Inside → Type 0
IsIndexed l = AreLookups (log_of l) l.lookups
