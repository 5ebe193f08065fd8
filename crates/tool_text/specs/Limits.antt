-- How large the numbers and the lists of a script may be.
use Rattle.std.specs.Prelude.{ℕ, ◌≤◌, length, IfSome}
use Rattle.std.specs.List.{AllByRecursion}
use Rattle.flash_types.specs.Settings.{AreSettings}
use Rattle.tool_text.specs.declared.script.Script.{Script}
use Rattle.tool_text.specs.declared.script.Event.{Event}
use Rattle.tool_text.specs.declared.script.ScriptRead.{ScriptRead}

-- the most workers of a kind, entries of the log that a place names, and events or reads
abbrev pub most_workers : ℕ
most_workers = 5

abbrev pub most_entries : ℕ
most_entries = 1048576

abbrev pub most_items : ℕ
most_items = 10000

pub record IsWithinLimits (s : Script) : Type 0 where
  pub appliers : s.appliers ≤ most_workers
  pub background : s.background ≤ most_workers
  pub scanners : s.scanners ≤ most_workers
  pub settings : AreSettings s.settings
  pub stop_after : IfSome s.stop_after (λ n. n ≤ most_entries)
  pub events : length s.events ≤ most_items
  pub reads : length s.reads ≤ most_items
  pub places : AllByRecursion (λ (e : Event). e.at ≤ most_entries) s.events
  pub places_of_reads : AllByRecursion (λ (r : ScriptRead). r.after ≤ most_entries) s.reads
