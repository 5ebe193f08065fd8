use Rattle.std.proofs.Common.{◌≡◌, map, take}
use Rattle.pack_codec.specs.Rows.{cell_at}
use Rattle.pack_codec.proofs.rows.cells_at.Given as goal

abbrev pub invariant-loop-list : goal.invariant-loop-list
invariant-loop-list l = l.cells.items ≡ map (λ list. cell_at list l.i) (take l.list-index l.lists)
