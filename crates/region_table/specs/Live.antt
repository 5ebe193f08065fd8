-- The regions that are there, one after the other.
use Rattle.std.specs.Prelude.{◌≡◌, ◌<◌, ℕ, Bool, true, false, Option, Some, None, List, [], ◌∷◌, nat_lt, filter}
use Rattle.std.specs.Option.{option_or}
use Rattle.flash_types.specs.declared.ask.AskRegion.{AskRegion}
use Rattle.region_file.specs.declared.entry.Entry.TheVariants as kept
use Rattle.region_table.specs.Table.{Kept, kept_in, state_in, is_there}

abbrev pub is_above : Option ℕ → ℕ → Bool
is_above None r = true
is_above (Some after) r = nat_lt after r

-- a region that is there, with its epoch and its index
abbrev pub asked_kept : ℕ × Kept → Option AskRegion
asked_kept (r, kept.Gone index) = None
asked_kept (r, kept.There s) = Some (record { region = r; epoch = s.descriptor.epoch; index = s.descriptor.index })

-- the first that is there
abbrev pub first_asked : List (ℕ × Kept) → Option AskRegion
first_asked [] = None
first_asked (e ∷ es) = option_or (asked_kept e) (first_asked es)

-- the first above a number
abbrev pub next_there : List (ℕ × Kept) → Option ℕ → Option AskRegion
next_there regions after = first_asked (filter (λ (e : ℕ × Kept). is_above after e.0) regions)

-- the region is there, above the number, and none between is there
pub record IsNextThere (regions : List (ℕ × Kept)) (after : Option ℕ) (found : AskRegion) : Type 0 where
  pub above : is_above after found.region ≡ true
  pub there : (k : Kept) × (kept_in regions found.region ≡ Some k) × (asked_kept (found.region, k) ≡ Some found)
  pub least : (r : ℕ) → is_above after r ≡ true → r < found.region → is_there (state_in regions r) ≡ false

-- the least region above a number that is there, or none where none is
abbrev pub IsLeastThere : List (ℕ × Kept) → Option ℕ → Option AskRegion → Type 0
IsLeastThere regions after None = (r : ℕ) → is_above after r ≡ true → is_there (state_in regions r) ≡ false
IsLeastThere regions after (Some found) = IsNextThere regions after found
