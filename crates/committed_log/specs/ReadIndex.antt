-- To be believed.
-- Read indexes: an index of a region at which, once it is reached, a read at a timestamp misses nothing, as TiKV's leader gives it to a reader.
use Rattle.std.specs.Prelude.{◌≡◌, ℕ, suc, ◌<◌, ◌≤◌, ℤ, Bool, true, false, Some, None, List, min, max}
use Rattle.std.specs.List.{Contains}
use Rattle.flash_types.specs.Ranges.{holds}
use Rattle.flash_types.specs.declared.ask.AskRegion.{AskRegion}
use Rattle.flash_types.specs.declared.range.HandleRange.{HandleRange}
use Rattle.flash_types.specs.declared.refusal.Cut.{Cut}
use Rattle.log_codec.specs.declared.entry.Body.{Body}
use Rattle.committed_log.specs.Applied.{entry_is, left_at, place, state, applied}
use Rattle.committed_log.specs.Log.{Log, at}
use Rattle.committed_log.specs.Regions.{Region, region, range_of}
use Rattle.committed_log.specs.Replies.{may_commit, first_lock, locks_at, cut_of}
use Rattle.committed_log.specs.Store.{Store, Commit, Lock, lock as lock_of, holds_some, clearing_of}

-- a transaction that began at most at the timestamp has the handle locked, and may commit
pub record IsLocked (s : Store) (h : ℤ) (ts : ℕ) : Type 0 where
  pub lock : Lock
  pub stands : lock_of s.locks h ≡ Some lock
  pub kind : may_commit lock.kind ≡ true
  pub start : lock.start ≤ ts

-- Of the handles that the region has at this index, each later commit that a read at the timestamp would see found its handle locked ever since.
pub record IsReadIndex (log : Log) (r index ts : ℕ) (range : HandleRange) : Type 0 where
  pub position : ℕ
  pub is : place log r index ≡ Some position
  pub there : range_of (left_at log r position) ≡ Some range
  pub locked : (p : ℕ) (c : Commit) → position < p → Contains (at log (suc p)).commits c → c.position ≡ p → holds range c.handle ≡ true → c.ts ≤ ts → (q : ℕ) → position < q → q ≤ p → IsLocked (at log q) c.handle ts

-- a read at the timestamp is answered at this index: the region has handles there, and no lock is in the way
pub record IsAnswered (log : Log) (r index ts : ℕ) (range : HandleRange) : Type 0 where
  pub there : range_of (state log r index) ≡ Some range
  pub free : first_lock (locks_at log r index) range ts ≡ None

-- ---- what is taken away

-- whether an entry takes away what there is of a handle: a Remove of its region, or an Install over it
abbrev pub clears : List (ℕ × Region) → ℤ → ℕ → Body → Bool
clears regions h r b = holds_some (clearing_of (range_of (region regions r)) b) h

abbrev pub clears_at : Log → ℤ → ℕ → Bool
clears_at log h p = entry_is log (λ e. clears (at log p).regions h e.region e.body) p

-- no entry after the place of the one index and up to that of the other takes away what there is of a handle
abbrev pub NoneClears : Log → ℕ → ℕ → ℕ → ℤ → Type 0
NoneClears log r i j h = (p q x : ℕ) → place log r i ≡ Some p → place log r j ≡ Some q → min p q < x → x ≤ max p q → clears_at log h x ≡ false

-- ---- what an answered read has

-- A region that a read asks about was answered where the set leaves it: by this cut, whose index is no earlier than the asked one.
pub record IsReadAt (log : Log) (A : ℕ → Bool) (ts : ℕ) (asked : AskRegion) : Type 0 where
  pub cut : Cut
  pub is : cut_of asked.region (applied log A asked.region) ≡ Some cut
  pub region : cut.region ≡ asked.region
  pub index : asked.index ≤ cut.index
  pub epoch : cut.epoch ≡ asked.epoch
  pub answered : IsAnswered log asked.region cut.index ts cut.range
