-- What is in memory once a store is opened.
use Rattle.std.specs.Prelude.{◌≡◌, List, []}
use Rattle.committed_log.specs.Log.{Log}
use Rattle.flash_types.specs.declared.settings.Settings.{Settings}
use Rattle.region_table.specs.Table.{Table}
use Rattle.segment_list.specs.Slots.{Slotted}
use Rattle.replica_state.specs.Core.{Core, IsCore}
use Rattle.replica_state.specs.declared.numbers.Numbers.{Numbers}

-- These parts, in order, and no entry was applied since: so what is applied is what the table tells, and `count` and `highest` are this set's.
pub record IsOpened {G : Type 0} (its_log : Log) (segments : List (Slotted G)) (regions : Table) (its_numbers : Numbers) (its_settings : Settings) (s : Core G) : Type 0 where
  pub log : s.log ≡ its_log
  pub slots : s.slots ≡ segments
  pub table : s.table ≡ regions
  pub listed : s.listed ≡ []
  pub committed : s.committed ≡ 0
  pub numbers : s.numbers ≡ its_numbers
  pub settings : s.settings ≡ its_settings
  pub order : IsCore s
