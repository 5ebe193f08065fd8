-- Which entries are applied, by the indexes of a table's regions.
use Rattle.std.specs.Prelude.{◌≡◌, ℕ, ◌<◌, ◌≤◌, Bool, true, false, Option, Some, None, List, nat_le}
use Rattle.committed_log.specs.Applied.{entry_is, with_position}
use Rattle.committed_log.specs.Log.{Log}
use Rattle.committed_log.specs.Regions.{index_of}
use Rattle.region_table.specs.Table.{Kept, IsCounted, state_in}
use Rattle.region_table.specs.declared.table.Counted.{Counted}

-- whether a region with this last index has come to an index
abbrev pub has_reached : Option ℕ → ℕ → Bool
has_reached None index = false
has_reached (Some last) index = nat_le index last

-- an entry is applied where its region has come to its index
abbrev pub applied_in : Log → List (ℕ × Kept) → ℕ → Bool
applied_in log regions p = entry_is log (λ e. has_reached (index_of (state_in regions e.region)) e.index) p

-- the first number from one on that doesn't pass a test, or the end
pub record IsFirstFrom (t : ℕ → Bool) (from end first : ℕ) : Type 0 where
  pub reached : from ≤ first
  pub within : first ≤ end
  pub passed : (q : ℕ) → from ≤ q → q < first → t q ≡ true
  pub out : first < end → t first ≡ false

-- where the position isn't in a set, and is in the set that these regions tell: what is counted becomes that of the set with it
abbrev pub CountsOne : Log → List (ℕ × Kept) → ℕ → Counted → Counted → Type 0
CountsOne log regions p old new =
    (A : ℕ → Bool) → IsCounted log A old → A p ≡ false → ((q : ℕ) → applied_in log regions q ≡ with_position A p q) → IsCounted log (with_position A p) new
