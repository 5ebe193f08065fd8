-- The text of rows.
use Rattle.std.specs.Prelude.{◌≡◌, ℕ, take, length, ◌+◌, ◌/◌, ◌%◌, List, [], ◌∷◌, ◌++◌, nat_lt, if◌then◌else◌, codes}
use Rattle.std.specs.List.{flat_map}
use Rattle.std.specs.Fmt.{decimal, signed_decimal}
use Rattle.column_block.specs.declared.cell.Cell.{Cell}
use Rattle.column_block.specs.declared.cell.Cell.TheVariants as cell
use Rattle.column_block.specs.declared.cell.Row.{Row}

abbrev pub hex_digit : ℕ → ℕ
hex_digit n = if nat_lt n 10 then 48 + n else 87 + n

-- two digits for each byte
abbrev pub hex : List ℕ → List ℕ
hex bytes = flat_map (λ b. hex_digit (b / 16) ∷ hex_digit (b % 16) ∷ []) bytes

abbrev pub cell_text : Cell → List ℕ
cell_text cell.Null = codes "null"
cell_text (cell.Int number) = signed_decimal number
cell_text (cell.Uint number) = decimal number
cell_text (cell.Bytes bytes) = codes "x" ++ hex bytes

abbrev pub cells_text : List Cell → List ℕ
cells_text cells = flat_map (λ (c : Cell). codes " " ++ cell_text c) cells

unfoldable pub line : Row → List ℕ
line row = codes "row " ++ signed_decimal row.handle ++ cells_text row.cells ++ codes "\n"

-- the text begins with this one
abbrev pub Begins : List ℕ → List ℕ → Type 0
Begins front text = take (length front) text ≡ front
