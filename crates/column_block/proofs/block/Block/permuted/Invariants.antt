use Rattle.std.proofs.Common.{◌≡◌, map, take, slice_get, Some}
use Rattle.std.specs.Arc.{arc_value}
use Rattle.column_block.proofs.block.Block.permuted.Given as goal

abbrev pub invariant-loop-place : goal.invariant-loop-place
invariant-loop-place l = map Some (map arc_value l.versions.items) ≡ map (slice_get l.self) (take l.place-index l.order)
