-- Which set a table is that of a log at: the entries that it says are applied are applied anew, in the order of the log.
use Rattle.std.specs.Prelude.{ℕ, Bool, ◌&&◌, List, nat_lt}
use Rattle.committed_log.specs.Applied.{IsClosed}
use Rattle.committed_log.specs.Log.{Log}
use Rattle.region_table.specs.Counting.{applied_in}
use Rattle.region_table.specs.Table.{Kept, Table, IsTableAt}

-- the positions of a set below a number
abbrev pub below : ℕ → (ℕ → Bool) → ℕ → Bool
below n A p = nat_lt p n && A p

-- the table is the log's where the entries are applied that these regions tell
abbrev pub IsAnew : Log → List (ℕ × Kept) → Table → Type 0
IsAnew log regions t = IsTableAt log (applied_in log regions) t

-- or those of them that stand below a number
abbrev pub IsAnewUpTo : Log → List (ℕ × Kept) → ℕ → Table → Type 0
IsAnewUpTo log regions n t = IsTableAt log (below n (applied_in log regions)) t

-- the entries that these regions tell aren't closed: no table has such regions
abbrev pub TellNoSet : Log → List (ℕ × Kept) → Type 0
TellNoSet log regions = IsClosed log (applied_in log regions) → ⊥
