-- What a refusal says of the log and the applied entries, by its kind.
use Rattle.std.specs.Prelude.{◌≡◌, ◌≢◌, ℕ, suc, ◌<◌, ◌≤◌, ℤ, Bool, true, Some, None, int_le}
use Rattle.std.specs.List.{Contains}
use Rattle.flash_types.specs.Asks.{Asked}
use Rattle.flash_types.specs.Ranges.{holds}
use Rattle.flash_types.specs.declared.Epoch.{Epoch}
use Rattle.flash_types.specs.declared.ask.AskRegion.{AskRegion}
use Rattle.flash_types.specs.declared.range.HandleRange.{HandleRange}
use Rattle.flash_types.specs.declared.refusal.Cut.{Cut}
use Rattle.flash_types.specs.declared.refusal.Refusal.{Refusal}
use Rattle.flash_types.specs.declared.refusal.Refusal.TheVariants as refusal
use Rattle.flash_types.specs.declared.refusal.Wants.TheVariants as wants
use Rattle.committed_log.specs.Applied.{applied, state, is_settled, next_of}
use Rattle.committed_log.specs.Applied as Applied
use Rattle.committed_log.specs.Log.{Log, at, end}
use Rattle.committed_log.specs.ReadIndex.{IsLocked}
use Rattle.committed_log.specs.Regions.{region as region_in}
use Rattle.committed_log.specs.declared.region.Region.TheVariants.{Unborn, Gone}
use Rattle.committed_log.specs.Replies.{cut_of, may_commit}
use Rattle.committed_log.specs.Store.{Store, lock as lock_of}
use Rattle.committed_log.specs.declared.store.Lock.{Lock}
use Rattle.log_laws.specs.Sets.{ends_at}

-- the read asks for the region
pub record AsksFor (ask : Asked) (r : ℕ) : Type 0 where
  pub asked : AskRegion
  pub among : Contains ask.regions asked
  pub region : asked.region ≡ r

-- the applied entries leave the region there, at this index and by this cut, and so has the log it at the index
pub record StandsAt (log : Log) (A : ℕ → Bool) (r index : ℕ) : Type 0 where
  pub cut : Cut
  pub left : cut_of r (applied log A r) ≡ Some cut
  pub given : cut_of r (state log r index) ≡ Some cut
  pub at_index : cut.index ≡ index

-- the region isn't born
pub record IsUnborn (log : Log) (ask : Asked) (A : ℕ → Bool) (r wanted : ℕ) : Type 0 where
  pub asks : AsksFor ask r
  pub asked_index : asks.asked.index ≡ wanted
  pub unborn : applied log A r ≡ Unborn

-- the region hasn't come to the asked index
pub record IsBehind (log : Log) (ask : Asked) (A : ℕ → Bool) (r index wanted : ℕ) : Type 0 where
  pub asks : AsksFor ask r
  pub asked_index : asks.asked.index ≡ wanted
  pub there : StandsAt log A r index
  pub below : index < wanted

-- the next entry of the region, after its index, isn't applied and stands below the mark
pub record IsUnsettled (log : Log) (ask : Asked) (A : ℕ → Bool) (mark r index p : ℕ) : Type 0 where
  pub asks : AsksFor ask r
  pub there : StandsAt log A r index
  pub reached : asks.asked.index ≤ index
  pub next : Applied.next log A r ≡ Some p
  pub after : next_of log r index ≡ Some p
  pub below : p < mark

-- the region, which is settled, has another epoch at its index than the asked one
pub record IsAtAnotherEpoch (log : Log) (ask : Asked) (A : ℕ → Bool) (mark r index : ℕ) (found : Epoch) : Type 0 where
  pub asks : AsksFor ask r
  pub there : StandsAt log A r index
  pub reached : asks.asked.index ≤ index
  pub settled : is_settled log A mark r ≡ true
  pub epoch : there.cut.epoch ≡ found
  pub other : found ≢ asks.asked.epoch

-- An applied entry ended the region, and the index is its last one: also at the log's end. (At the index the log may have the region prepared, where it went into another.)
pub record IsGone (log : Log) (ask : Asked) (A : ℕ → Bool) (r index : ℕ) : Type 0 where
  pub asks : AsksFor ask r
  pub gone : applied log A r ≡ Gone index
  pub at_end : region_in (end log).regions r ≡ Gone index
  pub place : ℕ
  pub done : A place ≡ true
  pub ended : ends_at log r place ≡ true

-- of the handles of a range that are locked in the way of a read at the timestamp this is the least; its lock began at this start
pub record IsLeastLocked (s : Store) (range : HandleRange) (ts : ℕ) (h : ℤ) (start : ℕ) : Type 0 where
  pub within : holds range h ≡ true
  pub lock : Lock
  pub stands : lock_of s.locks h ≡ Some lock
  pub kind : may_commit lock.kind ≡ true
  pub began : lock.start ≡ start
  pub early : start ≤ ts
  pub least : (g : ℤ) → holds range g ≡ true → IsLocked s g ts → int_le h g ≡ true

-- the region, which is settled and has the asked epoch, has a lock in the way at its index
pub record IsLockedAt (log : Log) (ask : Asked) (A : ℕ → Bool) (mark r index : ℕ) (h : ℤ) (start : ℕ) : Type 0 where
  pub asks : AsksFor ask r
  pub there : StandsAt log A r index
  pub reached : asks.asked.index ≤ index
  pub settled : is_settled log A mark r ≡ true
  pub epoch : there.cut.epoch ≡ asks.asked.epoch
  pub place : ℕ
  pub is : Applied.place log r index ≡ Some place
  pub locked : IsLeastLocked (at log (suc place)) there.cut.range ask.ts h start

-- What a refusal says is so.
abbrev pub IsSo : Log → Asked → (ℕ → Bool) → ℕ → ℕ → Refusal → Type 0
IsSo log ask A safe mark (refusal.BelowSafePoint point) = (point ≡ safe) × (ask.ts < safe)
IsSo log ask A safe mark (refusal.NotYet r None (wants.Index wanted)) = IsUnborn log ask A r wanted
IsSo log ask A safe mark (refusal.NotYet r None (wants.Mark next below)) = ⊥
IsSo log ask A safe mark (refusal.NotYet r (Some index) (wants.Index wanted)) = IsBehind log ask A r index wanted
IsSo log ask A safe mark (refusal.NotYet r (Some index) (wants.Mark next below)) = (below ≡ mark) × IsUnsettled log ask A mark r index next
IsSo log ask A safe mark (refusal.EpochNotMatch r index None) = IsGone log ask A r index
IsSo log ask A safe mark (refusal.EpochNotMatch r index (Some found)) = IsAtAnotherEpoch log ask A mark r index found
IsSo log ask A safe mark (refusal.Locked r index h start) = IsLockedAt log ask A mark r index h start
