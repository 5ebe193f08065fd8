-- One region of the replica: what it is, where it is to be merged, and the families of its handles.
use Rattle.std.specs.Prelude.{◌≡◌, ℕ, ℤ, not, Option, Some, None, List, [], filter, fold, is_some}
use Rattle.std.specs.BTreeMap.{insert_entry, is_at}
use Rattle.std.specs.Map.{lookup}
use Rattle.std.specs.Ordering.{int_cmp}
use Rattle.std.specs.declared.cmp.Ordering.{Ordering}
use Rattle.flash_types.specs.Ranges.{holds}
use Rattle.flash_types.specs.declared.Epoch.{Epoch}
use Rattle.flash_types.specs.declared.range.HandleRange.{HandleRange}
use Rattle.committed_log.specs.Regions.{raised, lower_part, upper_part, merged}
use Rattle.committed_log.specs.Store.{value_cmp}
use Rattle.committed_log.specs.declared.region.Descriptor.{Descriptor}
use Rattle.committed_log.specs.declared.store.Lock.{Lock}

-- The values of the default family by handle and start, and the locks by handle, each list in the order of its keys, as the row store has them. A region that is to be merged has a target.
pub record State : Type 0 where
  pub descriptor : Descriptor
  pub target : Option ℕ
  pub values : List ((ℤ × ℕ) × List ℕ)
  pub locks : List (ℤ × Lock)

abbrev pub values_in : HandleRange → List ((ℤ × ℕ) × List ℕ) → List ((ℤ × ℕ) × List ℕ)
values_in range values = filter (λ (e : (ℤ × ℕ) × List ℕ). holds range e.0.0) values

abbrev pub locks_in : HandleRange → List (ℤ × Lock) → List (ℤ × Lock)
locks_in range locks = filter (λ (e : ℤ × Lock). holds range e.0) locks

-- the families have nothing outside of a range
pub record IsWithin (range : HandleRange) (values : List ((ℤ × ℕ) × List ℕ)) (locks : List (ℤ × Lock)) : Type 0 where
  pub all_values : values_in range values ≡ values
  pub all_locks : locks_in range locks ≡ locks

-- a region that is born, with no rows
abbrev pub born : HandleRange → Epoch → ℕ → State
born range epoch index = record { descriptor = record { range = range; epoch = epoch; index = index }; target = None; values = []; locks = [] }

-- the region after it was prepared to be merged into a target
abbrev pub prepared : State → ℕ → ℕ → State
prepared s target index = record s { descriptor = record { range = s.descriptor.range; epoch = raised s.descriptor.epoch 1 1; index = index }; target = Some target }

-- ---- splits and merges

-- of the two parts of a split the lower keeps the region's number, and each has the families of its handles
abbrev pub lower_of : State → ℤ → ℕ → State
lower_of s at index =
    let d : Descriptor = lower_part s.descriptor at index in
    record s { descriptor = d; values = values_in d.range s.values; locks = locks_in d.range s.locks }

abbrev pub upper_of : State → ℤ → State
upper_of s at =
    let d : Descriptor = upper_part s.descriptor at in
    record { descriptor = d; target = None; values = values_in d.range s.values; locks = locks_in d.range s.locks }

-- the entries of two maps in one
abbrev pub united : {K X : Type 0} → (K → K → Ordering) → List (K × X) → List (K × X) → List (K × X)
united {K} {X} cmp es more = fold (λ (all : List (K × X)) (e : K × X). insert_entry cmp all e.0 e.1) es more

-- the entries of a map whose keys another hasn't
abbrev pub outside : {K X : Type 0} → (K → K → Ordering) → List (K × X) → List (K × X) → List (K × X)
outside {K} {X} cmp others es = filter (λ (e : K × X). not (is_some (lookup (is_at (cmp e.0)) others))) es

-- the region after another was merged into it
abbrev pub absorbed : State → State → ℕ → State
absorbed s other index = record s { descriptor = merged s.descriptor other.descriptor index; values = united value_cmp s.values other.values; locks = united int_cmp s.locks other.locks }
