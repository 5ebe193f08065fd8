-- Sets of positions as lists, for tests of them.
use Rattle.std.specs.Prelude.{ℕ, Bool, false, Some, None, List, slice_get}

-- whether the list says so at a place; behind its end nothing is in the set
abbrev pub in_set : List Bool → ℕ → Bool
in_set set p = elim (slice_get set p) [ None ↦ false | Some here ↦ here ]
