-- Versions that suit a schema and some that don't, and a block's versions within a range, computed.
use Rattle.std.proofs.Common.{◌≡◌, refl, ℕ, ℤ, pos, negsuc, Bool, true, false, List, [], ◌∷◌, Option, Some, None, filter, ap}
use Rattle.column_block.specs.declared.column.Column.{Column}
use Rattle.column_block.specs.declared.column.Kind.TheVariants as kind
use Rattle.column_block.specs.declared.cell.Cell.{Cell}
use Rattle.column_block.specs.declared.cell.Cell.TheVariants as cell
use Rattle.column_block.specs.declared.cell.Version.{Version}
use Rattle.column_block.specs.Handles.{lies_in}
use Rattle.column_block.specs.Order.{rise}
use Rattle.column_block.specs.Suiting.{Suits}

columns : List Column
columns = record { id = 1; kind = kind.Uint } ∷ record { id = 2; kind = kind.Bytes } ∷ []

put : ℤ → ℕ → List Cell → Version
put handle ts cells = record { handle = handle; ts = ts; gone = false; cells = cells }

gone : ℤ → ℕ → List Cell → Version
gone handle ts cells = record { handle = handle; ts = ts; gone = true; cells = cells }

full : Suits columns (put (pos 6) 11 (cell.Uint 7 ∷ cell.Null ∷ []))
unfolding columns put
full = (refl, (tt, tt))

deleted : Suits columns (gone (pos 6) 12 [])
unfolding gone
deleted = refl

-- too few cells, one of another kind, and a delete with a cell
short : Suits columns (put (pos 6) 11 (cell.Uint 7 ∷ [])) → ⊥
unfolding columns put
short h = h.1

other_kind : Suits columns (put (pos 6) 11 (cell.Int (pos 7) ∷ cell.Null ∷ [])) → ⊥
unfolding columns put
other_kind h = absurd (cc h.0)

kept_cells : Suits columns (gone (pos 6) 12 (cell.Null ∷ [])) → ⊥
unfolding gone
kept_cells h = absurd (cc h)

-- versions as an entry has them, in no order of handles
some_versions : List Version
some_versions = put (pos 6) 11 [] ∷ put (negsuc 1) 11 [] ∷ put (pos 9) 12 [] ∷ put (pos 6) 12 [] ∷ []

within : filter (lies_in (pos 6) (Some (pos 9))) some_versions ≡ put (pos 6) 11 [] ∷ put (pos 6) 12 [] ∷ []
unfolding some_versions put
within = refl

without_end : filter (lies_in (pos 6) None) some_versions ≡ put (pos 6) 11 [] ∷ put (pos 9) 12 [] ∷ put (pos 6) 12 [] ∷ []
unfolding some_versions put
without_end = refl

-- timestamps rise on a handle, and each pair stands once
rising : rise (put (negsuc 1) 12 [] ∷ put (pos 6) 11 [] ∷ put (pos 6) 12 [] ∷ []) ≡ true
unfolding put
rising = refl

twice : rise (put (pos 6) 11 [] ∷ put (pos 6) 11 [] ∷ []) ≡ false
unfolding put
twice = refl
