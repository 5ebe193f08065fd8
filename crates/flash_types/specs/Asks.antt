-- What a read asks for.
use Rattle.std.specs.Prelude.{◌≡◌, ◌≢◌, ℕ, ◌<◌, ◌≤◌, List, [], length, take, AllPairs, Any, Some, slice_get}
use Rattle.flash_types.specs.declared.range.HandleRange.{HandleRange}
use Rattle.flash_types.specs.declared.ask.AskRegion.{AskRegion}
use Rattle.flash_types.specs.declared.ask.AskError.{AskError}
use Rattle.flash_types.specs.declared.ask.AskError.TheVariants.{Empty, TooMany, Twice, Memory}

-- a read at a timestamp of these regions, of which the handles within the clip are wanted
pub record Asked : Type 0 where
  pub ts : ℕ
  pub regions : List AskRegion
  pub clip : HandleRange

abbrev pub most_regions : ℕ
most_regions = 64

-- a region of the list has this id
abbrev pub Names : List AskRegion → ℕ → Type 0
Names regions id = Any (λ r. r.region ≡ id) regions

-- no two have the same id
abbrev pub AreDistinct : List AskRegion → Type 0
AreDistinct regions = AllPairs (λ a b. a.region ≢ b.region) regions

-- This is the id of the first region whose id stood earlier in the list.
pub record IsFirstRepeat (regions : List AskRegion) (id : ℕ) : Type 0 where
  pub place : ℕ
  pub asked : AskRegion
  pub here : slice_get regions place ≡ Some asked
  pub is : asked.region ≡ id
  pub earlier : Names (take place regions) id
  pub first : AreDistinct (take place regions)

-- the regions are what an ask may have
pub record CanBeAsked (regions : List AskRegion) : Type 0 where
  pub some : regions ≢ []
  pub few : length regions ≤ most_regions
  pub distinct : AreDistinct regions

-- why these regions can't be asked
abbrev pub IsCause : List AskRegion → AskError → Type 0
IsCause regions Empty = regions ≡ []
IsCause regions (TooMany count) = (count ≡ length regions) × (most_regions < length regions)
IsCause regions (Twice region) = (length regions ≤ most_regions) × IsFirstRepeat regions region
IsCause regions Memory = Unit {0}
