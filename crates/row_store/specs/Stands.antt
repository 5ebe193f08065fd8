-- Entries in the order of their keys.
use Rattle.std.specs.Prelude.{ℕ, Bool, false, Some, None, List, slice_get}
use Rattle.std.specs.BTreeMap.{is_at}
use Rattle.std.specs.declared.cmp.Ordering.{Ordering}

-- whether the entry at a place has the key
abbrev pub stands : {K X : Type 0} → (K → K → Ordering) → K → List (K × X) → ℕ → Bool
stands cmp k es at = elim (slice_get es at) [ None ↦ false | Some e ↦ is_at (cmp k) e.0 ]
