-- The rows of the worked example: handles 5 and 7 are put at 10, handle 5 again at 20, and deleted at 30.
use Rattle.std.specs.Prelude.{pos, true, false, List, [], ◌∷◌}
use Rattle.column_block.specs.declared.cell.Cell.{Cell}
use Rattle.column_block.specs.declared.cell.Cell.TheVariants as cell
use Rattle.column_block.specs.declared.cell.Version.{Version}

-- the number 5 and the text `ab`, and the number 1 and null
abbrev pub five_and_ab : List Cell
five_and_ab = cell.Int (pos 5) ∷ cell.Bytes (97 ∷ 98 ∷ []) ∷ []

abbrev pub one_and_null : List Cell
one_and_null = cell.Int (pos 1) ∷ cell.Null ∷ []

abbrev pub five_at_10 : Version
five_at_10 = record { handle = pos 5; ts = 10; gone = false; cells = five_and_ab }

abbrev pub five_at_20 : Version
five_at_20 = record { handle = pos 5; ts = 20; gone = false; cells = one_and_null }

abbrev pub five_at_30 : Version
five_at_30 = record { handle = pos 5; ts = 30; gone = true; cells = [] }

abbrev pub seven_at_10 : Version
seven_at_10 = record { handle = pos 7; ts = 10; gone = false; cells = five_and_ab }

-- in order of handle and timestamp
abbrev pub worked : List Version
worked = five_at_10 ∷ five_at_20 ∷ five_at_30 ∷ seven_at_10 ∷ []
