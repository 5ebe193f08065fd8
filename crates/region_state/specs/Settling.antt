-- Changes that are settled in a map: what they put where there was nothing is added first, so that the rest takes no memory.
use Rattle.std.specs.Prelude.{◌≡◌, ℤ, true, Option, Some, None, List, [], ◌∷◌, fold, is_some, if◌then◌else◌}
use Rattle.std.specs.BTreeMap.{insert_entry, is_at}
use Rattle.std.specs.Map.{lookup, remove_entry}
use Rattle.std.specs.declared.cmp.Ordering.{Ordering}
use Rattle.std.specs.Ordering.{int_cmp}
use Rattle.committed_log.specs.declared.op.FamilyOp.{FamilyOp}
use Rattle.committed_log.specs.declared.op.FamilyOp.TheVariants as change
use Rattle.committed_log.specs.declared.store.Lock.{Lock}

-- the entries after a change, which puts a value at a key or takes out what is there
abbrev pub settle_step : {K X : Type 0} → (K → K → Ordering) → List (K × X) → K × Option X → List (K × X)
settle_step cmp es e = elim e.1 [ None ↦ remove_entry (is_at (cmp e.0)) es | Some v ↦ insert_entry cmp es e.0 v ]

abbrev pub settled : {K X : Type 0} → (K → K → Ordering) → List (K × X) → List (K × Option X) → List (K × X)
settled cmp es changes = fold (settle_step cmp) es changes

-- a value is put only where there is one
abbrev pub CanSettle : {K X : Type 0} → (K → K → Ordering) → List (K × X) → K × Option X → Type 0
CanSettle cmp es e = elim e.1 [ None ↦ Unit {0} | Some v ↦ is_some (lookup (is_at (cmp e.0)) es) ≡ true ]

abbrev pub Ready : {K X : Type 0} → (K → K → Ordering) → List (K × X) → List (K × Option X) → Type 0
Ready cmp es [] = Unit {0}
Ready cmp es (e ∷ changes) = CanSettle cmp es e × Ready cmp (settle_step cmp es e) changes

-- what changes put where a map has nothing
abbrev pub missing_step : {K X : Type 0} → (K → K → Ordering) → List (K × X) → List (K × X) → K × Option X → List (K × X)
missing_step cmp es fresh e = elim e.1 [ None ↦ fresh | Some v ↦ if is_some (lookup (is_at (cmp e.0)) es) then fresh else insert_entry cmp fresh e.0 v ]

abbrev pub missing : {K X : Type 0} → (K → K → Ordering) → List (K × X) → List (K × X) → List (K × Option X) → List (K × X)
missing cmp es fresh changes = fold (missing_step cmp es) fresh changes

-- what changes do to the lock family: at each handle a lock, or none where it is taken out
abbrev pub lock_change : List (ℤ × Option Lock) → FamilyOp → List (ℤ × Option Lock)
lock_change cs (change.Lock h kind start) = insert_entry int_cmp cs h (Some (record { kind = kind; start = start }))
lock_change cs (change.Unlock h) = insert_entry int_cmp cs h None
lock_change cs (change.Value h start bytes) = cs
lock_change cs (change.DropValue h start) = cs
lock_change cs (change.Write h ts start gone short) = cs

abbrev pub lock_changes : List FamilyOp → List (ℤ × Option Lock)
lock_changes ops = fold lock_change [] ops
