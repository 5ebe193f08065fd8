-- Changes that stand over a map: at each key that they have a value, or none where it was taken out.
use Rattle.std.specs.Prelude.{◌≡◌, ℕ, ℤ, Option, Some, None, List}
use Rattle.std.specs.BTreeMap.{BTreeMap, get}
use Rattle.std.specs.List.Sorted.{IsStrictlySortedBy}
use Rattle.std.specs.Map.{keys_of}
use Rattle.committed_log.specs.Store.{Store, value, value_cmp}
use Rattle.committed_log.specs.declared.store.Commit.{Commit}
use Rattle.committed_log.specs.declared.store.Lock.{Lock}

-- what is seen at a key
abbrev pub seen : {X : Type 0} → Option (Option X) → Option X → Option X
seen None there = there
seen (Some changed) there = changed

-- values with changes over them stand for those of a store
pub record Stands (values : List ((ℤ × ℕ) × List ℕ)) (changes : BTreeMap (ℤ × ℕ) (Option (List ℕ))) (s : Store) : Type 0 where
  pub found : (h : ℤ) (start : ℕ) → seen (get value_cmp changes (h, start)) (value values h start) ≡ value s.values h start
  pub ordered : IsStrictlySortedBy value_cmp (keys_of s.values)

-- the families are those of a store
pub record AreOf (s : Store) (values : List ((ℤ × ℕ) × List ℕ)) (locks : List (ℤ × Lock)) : Type 0 where
  pub all_values : values ≡ s.values
  pub all_locks : locks ≡ s.locks

-- a commit of a value that is seen in the default family, or of a short one
abbrev pub commit_of : ℤ → ℕ → ℕ → Option (List ℕ) → Commit
commit_of h ts start value = record { handle = h; ts = ts; start = start; value = value; position = 0 }
