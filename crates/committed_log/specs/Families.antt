-- Admission's machinery.
-- How the look-up tables of the families stand for a store, and what taking their changes back gives.
use Rattle.std.specs.Prelude.{◌≡◌, ℕ, ℤ, Option, Some, None, List, [], ◌∷◌, ◌++◌, IsSome, if◌then◌else◌, cond}
use Rattle.std.specs.declared.cmp.Ordering.{Ordering}
use Rattle.std.specs.Ordering.{int_cmp}
use Rattle.std.specs.BTreeMap.{get, is_at}
use Rattle.std.specs.List.Sorted.{IsStrictlySortedBy}
use Rattle.std.specs.Map.{keys_of}
use Rattle.committed_log.specs.Store.{Store, value, value_cmp, last_commit}
use Rattle.committed_log.specs.declared.op.LastCommit.{LastCommit}
use Rattle.committed_log.specs.declared.families.Families.{Families}

-- a value that was taken out again stands in its place as none
abbrev pub held : Option (Option (List ℕ)) → Option (List ℕ)
held None = None
held (Some v) = v

-- The tables have what admission looks up in a store; its values stand in the order of their keys.
pub record Holds (f : Families) (s : Store) : Type 0 where
  pub values : (h : ℤ) (start : ℕ) → held (get value_cmp f.values (h, start)) ≡ value s.values h start
  pub last : (h : ℤ) → get int_cmp f.last h ≡ last_commit s.commits h
  pub ordered : IsStrictlySortedBy value_cmp (keys_of s.values)

-- ---- taking back

-- a store, and the one that it came from
pub record Course : Type 0 where
  pub store : Store
  pub before : Store

-- what a map has at each key, where at one of them stands what stood there before
abbrev pub undo_one : {K X : Type 0} → (K → K → Ordering) → K × Option X → (K → Option X) → K → Option X
undo_one R u f q = if is_at (R u.0) q then u.1 else f q

-- the changes taken back, the last one first
abbrev pub undone : {K X : Type 0} → (K → K → Ordering) → List (K × Option X) → (K → Option X) → K → Option X
undone R [] f = f
undone R (u ∷ us) f = undo_one R u (undone R us f)

-- at its turn each key is there, so that none of it takes memory
abbrev pub CanUndo : {K X : Type 0} → (K → K → Ordering) → List (K × Option X) → (K → Option X) → Type 0
CanUndo R [] f = Unit {0}
CanUndo R (u ∷ us) f = IsSome (undone R us f u.0) × CanUndo R us f

-- with the changes taken back the tables stand for a store
pub record Returns (f : Families) (s : Store) : Type 0 where
  pub can_values : CanUndo value_cmp f.values_undo.items (get value_cmp f.values)
  pub can_last : CanUndo int_cmp f.last_undo.items (get int_cmp f.last)
  pub values : (h : ℤ) (start : ℕ) → held (undone value_cmp f.values_undo.items (get value_cmp f.values) (h, start)) ≡ value s.values h start
  pub last : (h : ℤ) → undone int_cmp f.last_undo.items (get int_cmp f.last) h ≡ last_commit s.commits h
  pub ordered : IsStrictlySortedBy value_cmp (keys_of s.values)

-- nothing is to be taken back
pub record IsSettled (f : Families) : Type 0 where
  pub values : f.values_undo.items ≡ []
  pub last : f.last_undo.items ≡ []

-- ---- one change

pub record IsSameBut (f g : Families) : Type 0 where
  pub values : g.values.entries ≡ f.values.entries
  pub last : g.last.entries ≡ f.last.entries
  pub values_undo : g.values_undo.items ≡ f.values_undo.items
  pub last_undo : g.last_undo.items ≡ f.last_undo.items

-- a value, or none, is put, and what stood there is noted
pub record PutsValue (f g : Families) (k : ℤ × ℕ) (v : Option (List ℕ)) : Type 0 where
  pub values : (q : ℤ × ℕ) → get value_cmp g.values q ≡ cond (is_at (value_cmp k) q) (Some v) (get value_cmp f.values q)
  pub values_undo : g.values_undo.items ≡ f.values_undo.items ++ (k, get value_cmp f.values k) ∷ []
  pub last : g.last.entries ≡ f.last.entries
  pub last_undo : g.last_undo.items ≡ f.last_undo.items

pub record PutsLast (f g : Families) (h : ℤ) (c : LastCommit) : Type 0 where
  pub last : (q : ℤ) → get int_cmp g.last q ≡ cond (is_at (int_cmp h) q) (Some c) (get int_cmp f.last q)
  pub last_undo : g.last_undo.items ≡ f.last_undo.items ++ (h, get int_cmp f.last h) ∷ []
  pub values : g.values.entries ≡ f.values.entries
  pub values_undo : g.values_undo.items ≡ f.values_undo.items
