-- Ranges that have no handle in common, by their low ends.
use Rattle.std.specs.Prelude.{◌≡◌, ℕ, ℤ, Bool, true, false, Option, Some, None, List, int_le, int_lt, fold, filter}
use Rattle.std.specs.List.{list_any, AllByRecursion}
use Rattle.flash_types.specs.Ranges.{is_below}
use Rattle.flash_types.specs.declared.range.HandleRange.{HandleRange}
use Rattle.region_file.specs.declared.entry.Entry.{Entry}
use Rattle.region_file.specs.declared.entry.Entry.TheVariants.{Gone, There}
use Rattle.region_file.specs.Regions.{meet}

abbrev pub span : ℤ × Option ℤ → HandleRange
span e = record { low = e.0; high = e.1 }

-- the range with this high end is at an end at this handle
abbrev pub ends_by : Option ℤ → ℤ → Bool
ends_by None handle = false
ends_by (Some high) handle = int_le high handle

-- The map has the ranges of a list that aren't empty, and each of them ends before the next begins.
pub record AreTaken (taken : List (ℤ × Option ℤ)) (ranges : List HandleRange) : Type 0 where
  pub same : (range : HandleRange) → list_any (meet range) ranges ≡ list_any (λ (e : ℤ × Option ℤ). meet range (span e)) taken
  pub filled : AllByRecursion (λ (e : ℤ × Option ℤ). is_below e.0 e.1 ≡ true) taken
  pub apart : AllByRecursion (λ (a : ℤ × Option ℤ). AllByRecursion (λ (b : ℤ × Option ℤ). int_lt a.0 b.0 ≡ true → ends_by a.1 b.0 ≡ true) taken) taken

-- an entry's range, where it has one, meets none of these
abbrev pub AreFree : ℕ × Entry → List HandleRange → Type 0
AreFree (id, Gone index) ranges = Unit {0}
AreFree (id, There region) ranges = list_any (meet region.descriptor.range) ranges ≡ false

-- whether the last entry that begins below a handle goes past it
abbrev pub last_of : {E : Type 0} → List E → Option E
last_of {E} es = fold (λ (last : Option E) (e : E). Some e) None es

abbrev pub goes_past : ℤ → List (ℤ × Option ℤ) → Bool
goes_past handle es = elim (last_of (filter (λ (e : ℤ × Option ℤ). int_lt e.0 handle) es)) [ None ↦ false | Some e ↦ is_below handle e.1 ]
