-- What a read shows of the versions of a block.
use Rattle.std.specs.Prelude.{ℕ, ℤ, ◌&&◌, Option, Some, None, List, [], ◌∷◌, nat_le, if◌then◌else◌}
use Rattle.std.specs.Option.{option_and_then, option_or}
use Rattle.std.specs.Ordering.{int_eq}
use Rattle.column_block.specs.declared.cell.Cell.{Cell}
use Rattle.column_block.specs.declared.cell.Version.{Version}

-- a handle's newest version up to a timestamp: the last such one, where the versions rise
abbrev pub newest : ℕ → ℤ → List Version → Option Version
newest ts h [] = None
newest ts h (v ∷ vs) = option_or (newest ts h vs) (if int_eq v.handle h && nat_le v.ts ts then Some v else None)

-- the cells of a version that is a put
abbrev pub cells_of : Version → Option (List Cell)
cells_of v = if v.gone then None else Some v.cells

-- What a read at a timestamp shows of a handle: the cells of its newest version up to there, and nothing where that is a delete or there is none.
abbrev pub shown : ℕ → ℤ → List Version → Option (List Cell)
shown ts h versions = option_and_then cells_of (newest ts h versions)
