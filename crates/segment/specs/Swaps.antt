-- What a swap puts into a segment's place.
use Rattle.std.specs.Prelude.{◌≡◌, ℕ, ◌≤◌, List, length, drop}
use Rattle.column_file.specs.declared.file.ColumnFile.{ColumnFile}

-- the files are those of the layer after some first ones
pub record IsRest (layer rest : List ColumnFile) : Type 0 where
  pub taken : ℕ
  pub within : taken ≤ length layer
  pub others : rest ≡ drop taken layer
