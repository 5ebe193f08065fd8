-- A store from which something was taken out.
use Rattle.std.proofs.Common.{◌≡◌, ℕ, ℤ, List, ap}
use Rattle.std.specs.BTreeMap.{is_at}
use Rattle.std.specs.Map.{remove_entry}
use Rattle.std.specs.Ordering.{int_cmp}
use Rattle.committed_log.specs.Store.{Store, value_cmp, after_change}
use Rattle.committed_log.specs.declared.op.FamilyOp.TheVariants as change
use Rattle.committed_log.specs.declared.region.Region.{Region}
use Rattle.committed_log.specs.declared.store.Commit.{Commit}
use Rattle.committed_log.specs.declared.store.Lock.{Lock}

abbrev pub made : List (ℕ × Region) → List ((ℤ × ℕ) × List ℕ) → List (ℤ × Lock) → List Commit → Store
made regions values locks commits = record { regions = regions; values = values; locks = locks; commits = commits }

pub value_dropped : (regions : List (ℕ × Region)) (values left : List ((ℤ × ℕ) × List ℕ)) (locks : List (ℤ × Lock)) (commits : List Commit) (p : ℕ) (h : ℤ) (start : ℕ)
    → left ≡ remove_entry (is_at (value_cmp (h, start))) values → made regions left locks commits ≡ after_change p (made regions values locks commits) (change.DropValue h start)
value_dropped regions values left locks commits p h start is = ap (λ some. made regions some locks commits) is

pub lock_dropped : (regions : List (ℕ × Region)) (values : List ((ℤ × ℕ) × List ℕ)) (locks left : List (ℤ × Lock)) (commits : List Commit) (p : ℕ) (h : ℤ)
    → left ≡ remove_entry (is_at (int_cmp h)) locks → made regions values left commits ≡ after_change p (made regions values locks commits) (change.Unlock h)
lock_dropped regions values locks left commits p h is = ap (λ some. made regions values some commits) is
