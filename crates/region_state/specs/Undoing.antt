-- Puts in the families that can be taken back, by what stood at their keys.
use Rattle.std.specs.Prelude.{◌≡◌, ℕ, ℤ, Bool, true, false, Option, List, [], ◌∷◌, ◌++◌, option_to_list}
use Rattle.std.specs.Ordering.{int_cmp}
use Rattle.std.specs.declared.cmp.Ordering.{Ordering}
use Rattle.committed_log.specs.Store.{value_cmp}
use Rattle.committed_log.specs.declared.op.FamilyOp.{FamilyOp}
use Rattle.committed_log.specs.declared.op.FamilyOp.TheVariants as change
use Rattle.committed_log.specs.declared.store.Lock.{Lock}
use Rattle.region_state.specs.Settling.{settle_step, CanSettle}
use Rattle.region_state.specs.declared.advance.Puts.{Puts}
use Rattle.region_state.specs.declared.journal.Journal.{Journal}

-- what stood at the key of each put, in order
abbrev pub noted : {K X : Type 0} → Journal K X → List (K × Option X)
noted j = j.earlier.items ++ option_to_list j.last

-- the entries before the puts
abbrev pub undone : {K X : Type 0} → (K → K → Ordering) → List (K × X) → List (K × Option X) → List (K × X)
undone cmp es [] = es
undone cmp es (e ∷ puts) = settle_step cmp (undone cmp es puts) e

-- what stood at a key is put back only where there is something
abbrev pub CanUndo : {K X : Type 0} → (K → K → Ordering) → List (K × X) → List (K × Option X) → Type 0
CanUndo cmp es [] = Unit {0}
CanUndo cmp es (e ∷ puts) = CanSettle cmp (undone cmp es puts) e × CanUndo cmp es puts

-- the puts lead from a map as it is back to what it was
pub record LeadsBack (K X : Type 0) (cmp : K → K → Ordering) (es was : List (K × X)) (puts : List (K × Option X)) : Type 0 where
  pub can : CanUndo cmp es puts
  pub undone : undone cmp es puts ≡ was

pub record CanGoBack (values : List ((ℤ × ℕ) × List ℕ)) (locks : List (ℤ × Lock)) (puts : Puts) (values_were : List ((ℤ × ℕ) × List ℕ)) (locks_were : List (ℤ × Lock)) : Type 0 where
  pub values_back : LeadsBack (ℤ × ℕ) (List ℕ) value_cmp values values_were (noted puts.values)
  pub locks_back : LeadsBack ℤ Lock int_cmp locks locks_were (noted puts.locks)

-- whether a change puts no value and no lock
abbrev pub puts_nothing : FamilyOp → Bool
puts_nothing (change.Value h start bytes) = false
puts_nothing (change.DropValue h start) = true
puts_nothing (change.Lock h kind start) = false
puts_nothing (change.Unlock h) = true
puts_nothing (change.Write h ts start gone short) = true
