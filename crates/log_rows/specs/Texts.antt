-- The text of rows.
use Rattle.std.specs.Prelude.{ℕ, List, [], ◌∷◌, ◌++◌, length, codes}
use Rattle.std.specs.List.{flat_map}
use Rattle.std.specs.Fmt.{decimal}
use Rattle.tool_text.specs.Texts.{line}
use Rattle.column_block.specs.declared.cell.Row.{Row}

unfoldable pub last_line : ℕ → List ℕ
last_line count = codes "rows " ++ decimal count ++ 10 ∷ []

unfoldable pub rows_text : List Row → List ℕ
rows_text rows = flat_map line rows ++ last_line (length rows)
