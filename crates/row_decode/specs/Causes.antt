-- Errors against the cells of a row.
use Rattle.std.specs.Prelude.{◌≡◌, ℕ, Result, Err}
use Rattle.row_decode.specs.declared.decode.DecodeError.{DecodeError}
use Rattle.row_decode.specs.declared.decode.DecodeError.TheVariants.{Width, Memory}

-- The error is the one that the cells of the row have, or want of memory.
abbrev pub IsCause : {X : Type 0} → Result X ℕ → DecodeError → Type 0
IsCause answer (Width id) = answer ≡ Err id
IsCause answer Memory = Unit {0}
