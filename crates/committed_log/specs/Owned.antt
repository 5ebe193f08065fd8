-- Admission's machinery.
-- Where the regions and the families lie.
use Rattle.std.specs.Prelude.{◌≡◌, ℕ, ℤ, ◌+ℤ◌, pos, true, false, Option, Some, None, List}
use Rattle.flash_types.specs.Ranges.{is_below}
use Rattle.flash_types.specs.declared.range.HandleRange.{HandleRange}
use Rattle.committed_log.specs.Laws.{owns, AreSameWithin}
use Rattle.committed_log.specs.Regions.{Region, region, range_of}
use Rattle.committed_log.specs.Store.{Store, empty}

abbrev pub RangeIsFilled : Option HandleRange → Type 0
RangeIsFilled None = Unit {0}
RangeIsFilled (Some range) = is_below range.low range.high ≡ true

abbrev pub IsFilled : Region → Type 0
IsFilled state = RangeIsFilled (range_of state)

-- each region that is there has a handle
abbrev pub AreFilled : List (ℕ × Region) → Type 0
AreFilled regions = (r : ℕ) → IsFilled (region regions r)

-- the range of one handle
abbrev pub only : ℤ → HandleRange
only h = record { low = h; high = Some (h +ℤ pos 1) }

-- a store has nothing of a handle
abbrev pub IsBare : ℤ → Store → Type 0
IsBare h s = AreSameWithin (only h) empty s

-- no region has the handle
abbrev pub IsUnowned : List (ℕ × Region) → ℤ → Type 0
IsUnowned regions h = (r : ℕ) → owns regions r h ≡ false

-- of a handle that no region has the families have nothing
abbrev pub LiesInRegions : Store → Type 0
LiesInRegions s = (h : ℤ) → IsUnowned s.regions h → IsBare h s
