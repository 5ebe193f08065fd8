-- To be believed.
-- When a read is refused, and which reply to it is right.
use Rattle.std.specs.Prelude.{◌≡◌, ℕ, suc, ℤ, Bool, true, false, ◌&&◌, Option, Some, None, List, [], ◌∷◌, nat_le, nat_lt, ◌==◌, if◌then◌else◌, find, map}
use Rattle.std.specs.Option.{option_or}
use Rattle.column_block.specs.declared.cell.Row.{Row}
use Rattle.column_block.specs.declared.column.Bound.{Bound}
use Rattle.flash_types.specs.Asks.{Asked}
use Rattle.flash_types.specs.Ranges.{holds}
use Rattle.flash_types.specs.declared.Epoch.{Epoch}
use Rattle.flash_types.specs.declared.ask.AskRegion.{AskRegion}
use Rattle.flash_types.specs.declared.range.HandleRange.{HandleRange}
use Rattle.flash_types.specs.declared.refusal.Cut.{Cut}
use Rattle.flash_types.specs.declared.refusal.Refusal.{Refusal}
use Rattle.flash_types.specs.declared.refusal.Refusal.TheVariants as refusal
use Rattle.flash_types.specs.declared.refusal.Wants.TheVariants as wants
use Rattle.kv_codec.specs.declared.records.LockKind.{LockKind}
use Rattle.kv_codec.specs.declared.records.LockKind.TheVariants as lock_kind
use Rattle.committed_log.specs.declared.region.Descriptor.{Descriptor}
use Rattle.committed_log.specs.Regions.{Region, Unborn, Live, Prepared, Gone}
use Rattle.committed_log.specs.Store.{Lock}
use Rattle.committed_log.specs.Log.{Log, at}
use Rattle.committed_log.specs.Applied.{applied, next, place, unsettled}
use Rattle.committed_log.specs.Reads.{rows, kept}

-- ---- locks: a transaction that may commit below the read's timestamp is in its way, as in Percolator

-- a lock for a put or a delete may become a commit; a lock of a read or a pessimistic one commits nothing yet
abbrev pub may_commit : LockKind → Bool
may_commit lock_kind.Put = true
may_commit lock_kind.Delete = true
may_commit lock_kind.Lock = false
may_commit lock_kind.Pessimistic = false

abbrev pub blocks : HandleRange → ℕ → ℤ × Lock → Bool
blocks range ts l = holds range l.0 && may_commit l.1.kind && nat_le l.1.start ts

-- the lock at the least handle of a range that is in the way of a read, since locks stand in order
abbrev pub first_lock : List (ℤ × Lock) → HandleRange → ℕ → Option (ℤ × Lock)
first_lock locks range ts = find (blocks range ts) locks

abbrev pub locks_at : Log → ℕ → ℕ → List (ℤ × Lock)
locks_at log r i = elim (place log r i) [ None ↦ [] | Some p ↦ (at log (suc p)).locks ]

-- ---- refusals

abbrev pub locked : Log → ℕ → ℕ → Descriptor → Option Refusal
locked log ts r d = elim (first_lock (locks_at log r d.index) d.range ts) [ None ↦ None | Some l ↦ Some (refusal.Locked r d.index l.0 l.1.start) ]

abbrev pub same_epoch : Epoch → Epoch → Bool
same_epoch a b = a.conf_ver == b.conf_ver && a.version == b.version

-- a region that isn't settled for the mark, whose next entry stands at this position
abbrev pub unsettled_refusal : ℕ → ℕ → Option ℕ → ℕ → Option Refusal
unsettled_refusal r index None mark = None
unsettled_refusal r index (Some p) mark = if unsettled (Some p) mark then Some (refusal.NotYet r (Some index) (wants.Mark p mark)) else None

-- why a region that is there can't be read
abbrev pub refused_there : Log → ℕ → AskRegion → Option ℕ → ℕ → Descriptor → Option Refusal
refused_there log ts asked next mark d =
    if nat_lt d.index asked.index then Some (refusal.NotYet asked.region (Some d.index) (wants.Index asked.index))
    else option_or (unsettled_refusal asked.region d.index next mark)
    (if same_epoch d.epoch asked.epoch then locked log ts asked.region d else Some (refusal.EpochNotMatch asked.region d.index (Some d.epoch)))

-- why a region in this state can't be read
abbrev pub refused_at : Log → ℕ → AskRegion → Option ℕ → ℕ → Region → Option Refusal
refused_at log ts asked next mark Unborn = Some (refusal.NotYet asked.region None (wants.Index asked.index))
refused_at log ts asked next mark (Gone index) = Some (refusal.EpochNotMatch asked.region index None)
refused_at log ts asked next mark (Live d) = refused_there log ts asked next mark d
refused_at log ts asked next mark (Prepared d target) = refused_there log ts asked next mark d

-- the first of the regions that can't be read, and why
abbrev pub refused_regions : Log → ℕ → List AskRegion → (ℕ → Bool) → ℕ → Option Refusal
refused_regions log ts [] A mark = None
refused_regions log ts (asked ∷ regions) A mark = option_or (refused_at log ts asked (next log A asked.region) mark (applied log A asked.region)) (refused_regions log ts regions A mark)

-- Why a read is refused, if it is, where these entries are applied. Below the safe point old versions may have been collected.
abbrev pub refused : Log → Asked → (ℕ → Bool) → ℕ → ℕ → Option Refusal
refused log ask A safe mark = if nat_lt ask.ts safe then Some (refusal.BelowSafePoint safe) else refused_regions log ask.ts ask.regions A mark

-- ---- replies

-- the cut of a region that can be read
abbrev pub cut_of : ℕ → Region → Option Cut
cut_of r (Live d) = Some (record { region = r; epoch = d.epoch; index = d.index; range = d.range })
cut_of r (Prepared d target) = Some (record { region = r; epoch = d.epoch; index = d.index; range = d.range })
cut_of r _ = None

-- one cut a region, in the ask's order
abbrev pub AreCuts : Log → (ℕ → Bool) → List AskRegion → List Cut → Type 0
AreCuts log A regions cuts = map (λ (asked : AskRegion). cut_of asked.region (applied log A asked.region)) regions ≡ map Some cuts

-- a refusal, or the regions as they were read and their rows
pub data Reply : Type 0 where
  Refused : Refusal → Reply
  Answered : List Cut → List Row → Reply

-- The reply is the read's refusal, or where there is none its rows; a bound keeps some of them.
abbrev pub IsRight : Log → Asked → Option Bound → (ℕ → Bool) → ℕ → ℕ → Reply → Type 0
IsRight log ask bound A safe mark (Refused why) = refused log ask A safe mark ≡ Some why
IsRight log ask bound A safe mark (Answered cuts found) =
    (refused log ask A safe mark ≡ None) × AreCuts log A ask.regions cuts × (found ≡ kept bound (rows log cuts ask.ts ask.clip))
