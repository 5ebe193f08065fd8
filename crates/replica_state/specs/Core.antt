-- What contracts see of what a replica has in memory, and when it is in order.
use Rattle.std.specs.Prelude.{◌≡◌, ◌≢◌, ◌⊎◌, ℕ, ◌<◌, ◌≤◌, ◌-◌, Bool, true, not, ◌&&◌, ◌==◌, List, length, Option, Some, None}
use Rattle.std.specs.List.{AllByRecursion, AllPairs, list_any}
use Rattle.column_block.specs.declared.column.Column.{Column}
use Rattle.column_file.specs.declared.file.ColumnFile.{ColumnFile}
use Rattle.column_file.specs.declared.file.ColumnFile.TheVariants.{Mem, Tiny, DeleteRange}
use Rattle.committed_log.specs.Applied.{IsClosed}
use Rattle.committed_log.specs.Log.{Log}
use Rattle.delta_layer.specs.Laws.{ViewSuits}
use Rattle.flash_types.specs.Settings.{AreSettings}
use Rattle.flash_types.specs.declared.settings.Settings.{Settings}
use Rattle.prefix_laws.specs.Prefixes as prefixes
use Rattle.region_table.specs.Counting.{applied_in}
use Rattle.region_table.specs.Table.{Table, IsTableAt, size_of}
use Rattle.segment_list.specs.Order.{IsSlot}
use Rattle.segment_list.specs.Slots.{Slotted, view_of}
use Rattle.replica_state.specs.declared.numbers.Numbers.{Numbers}

-- The log, the segments, and the table of the regions. `listed` are the positions that were applied since the opening, in order, and `committed` is how many of them the last checkpoint has. `count` is how many entries are applied in all, and `highest` one past the greatest of their positions.
pub record Core (G : Type 0) : Type 0 where
  pub log : Log
  pub slots : List (Slotted G)
  pub table : Table
  pub listed : List ℕ
  pub committed : ℕ
  pub count : ℕ
  pub highest : ℕ
  pub numbers : Numbers
  pub settings : Settings

-- ---- which entries are applied

abbrev pub is_listed : List ℕ → ℕ → Bool
is_listed positions p = list_any (λ (q : ℕ). p == q) positions

module _ {G : Type 0} where
  -- all that are
  abbrev pub full : Core G → ℕ → Bool
  full s p = applied_in s.log s.table.regions p

  -- those that were at the opening
  abbrev pub opened : Core G → ℕ → Bool
  opened s p = full s p && not (is_listed s.listed p)

  -- those that were then, and the first k that were applied since
  abbrev pub upto : Core G → ℕ → ℕ → Bool
  upto s k = prefixes.upto (opened s) s.listed k

-- one past the greatest number of a set, and 0 where there is none
pub record IsHighest (A : ℕ → Bool) (n : ℕ) : Type 0 where
  pub below : (p : ℕ) → A p ≡ true → p < n
  pub last : (n ≡ 0) ⊎ (A (n - 1) ≡ true)

-- The table is the log's where the entries are that it tells. Those that were applied by any moment since the opening are a closed set.
pub record AreSets {G : Type 0} (s : Core G) : Type 0 where
  pub table : IsTableAt s.log (full s) s.table
  pub closed : (k : ℕ) → IsClosed s.log (upto s k)
  pub differ : AllPairs (λ (p q : ℕ). p ≢ q) s.listed
  pub applied : AllByRecursion (λ (p : ℕ). full s p ≡ true) s.listed
  pub committed : s.committed ≤ length s.listed
  pub count : s.count ≡ size_of s.log (full s)
  pub highest : IsHighest (full s) s.highest

-- ---- the segments

-- the number of a tiny file is below Next
abbrev pub IsFileBelow : ℕ → ColumnFile → Type 0
IsFileBelow next (Mem block) = Unit {0}
IsFileBelow next (Tiny file block) = file < next
IsFileBelow next (DeleteRange range) = Unit {0}

abbrev pub IsNumberBelow : ℕ → Option ℕ → Type 0
IsNumberBelow next None = Unit {0}
IsNumberBelow next (Some number) = number < next

-- the numbers of a segment and of its files are below Next, and so is its epoch
pub record IsNumbered {G : Type 0} (next : ℕ) (s : Slotted G) : Type 0 where
  pub id : s.id < next
  pub epoch : s.epoch < next
  pub files : AllByRecursion (IsFileBelow next) s.files
  pub stable : IsNumberBelow next s.stable_number

-- its versions suit the columns, with which its stable part was opened
abbrev pub SlotSuits : {G : Type 0} → List Column → Slotted G → Type 0
SlotSuits columns s = ViewSuits columns (view_of s)

-- Slots, each in order by itself, where `committed` of the `last` entries that were applied are named; that they cover the handles is told by their list.
pub record AreSlots {G : Type 0} (columns : List Column) (next committed last : ℕ) (slots : List (Slotted G)) : Type 0 where
  pub order : AllByRecursion (IsSlot committed last) slots
  pub numbered : AllByRecursion (IsNumbered next) slots
  pub suit : AllByRecursion (SlotSuits columns) slots

-- ---- the numbers

-- Of `n` entries the store may have rows of those below High, and had of those below the mark when it was opened. Each generation gives up a number.
pub record AreNumbers (n : ℕ) (numbers : Numbers) : Type 0 where
  pub mark : numbers.mark ≤ numbers.high
  pub high : numbers.high ≤ n
  pub kept : numbers.kept_from ≤ numbers.generation
  pub generation : numbers.generation < numbers.next

-- What a replica has in memory is in order.
pub record IsCore {G : Type 0} (s : Core G) : Type 0 where
  pub sets : AreSets s
  pub slots : AreSlots s.log.schema s.numbers.next s.committed (length s.listed) s.slots
  pub numbers : AreNumbers (length s.log.entries) s.numbers
  pub settings : AreSettings s.settings
