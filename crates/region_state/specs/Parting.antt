-- The locks on one side of a handle, that of the two which has fewer.
use Rattle.std.specs.Prelude.{◌≡◌, ℤ, List, filter, int_le, int_lt}
use Rattle.committed_log.specs.declared.store.Lock.{Lock}
use Rattle.region_state.specs.declared.parts.Fewer.{Fewer}
use Rattle.region_state.specs.declared.parts.Fewer.TheVariants as fewer

abbrev pub IsSideOf : ℤ → List (ℤ × Lock) → Fewer → Type 0
IsSideOf at locks (fewer.Below side) = side.entries ≡ filter (λ (e : ℤ × Lock). int_lt e.0 at) locks
IsSideOf at locks (fewer.From side) = side.entries ≡ filter (λ (e : ℤ × Lock). int_le at e.0) locks
