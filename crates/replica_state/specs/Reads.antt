-- What a read sees of regions, by what a table keeps.
use Rattle.std.specs.Prelude.{ℕ, Option, List}
use Rattle.committed_log.specs.Replies.{cut_of}
use Rattle.flash_types.specs.declared.ask.AskRegion.{AskRegion}
use Rattle.flash_types.specs.declared.refusal.Cut.{Cut}
use Rattle.region_table.specs.Table.{Kept, state_in}

-- the cut of an asked region
abbrev pub cut_in : List (ℕ × Kept) → AskRegion → Option Cut
cut_in regions asked = cut_of asked.region (state_in regions asked.region)
