-- What versions of a row show at a timestamp: Percolator's rule, on the files' versions.
use Rattle.std.specs.Prelude.{◌≡◌, ◌⊎◌, ℕ, ◌≤◌, true, false, Option, Some, None, List}
use Rattle.column_block.specs.declared.cell.Cell.{Cell}
use Rattle.column_block.specs.declared.cell.Version.{Version}
use Rattle.good_replica.specs.Versions.{Versions}

-- the newest version up to ts is v, committed at c
pub record IsNewestAt (all : Versions) (ts c : ℕ) (v : Version) : Type 0 where
  pub here : all c ≡ Some v
  pub below : c ≤ ts
  pub newest : (d : ℕ) (w : Version) → all d ≡ Some w → d ≤ ts → d ≤ c

-- The cells that versions show at ts: those of the newest up to ts. Nothing, where that is a delete or there is none.
abbrev pub Shows : Versions → ℕ → Option (List Cell) → Type 0
Shows all ts (Some cells) = (c : ℕ) × (v : Version) × IsNewestAt all ts c v × (v.gone ≡ false) × (v.cells ≡ cells)
Shows all ts None = ((d : ℕ) → d ≤ ts → all d ≡ None) ⊎ ((c : ℕ) × (v : Version) × IsNewestAt all ts c v × (v.gone ≡ true))
