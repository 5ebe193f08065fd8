use Rattle.std.proofs.Common.{◌≡◌, drop}
use Rattle.std.specs.Prelude.{find, not}
use Rattle.row_codec.specs.Rows.{ids_of}
use Rattle.row_decode.specs.Known.{is_known}
use Rattle.row_decode.proofs.known.unknown_column.Given as goal

abbrev pub invariant-loop-k : goal.invariant-loop-k
invariant-loop-k l = find (λ id. not (is_known l.columns id)) (ids_of l.row) ≡ find (λ id. not (is_known l.columns id)) (drop l.k (ids_of l.row))
