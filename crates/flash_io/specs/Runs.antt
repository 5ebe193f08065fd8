-- What a run of calls leaves of a disk.
use Rattle.std.specs.Prelude.{◌≡◌, ℕ, ◌≤◌}
use Rattle.flash_io.specs.Image.{Image}
use Rattle.flash_io.specs.Crash.{SameOutcomes, LeavesOnly}

-- the disk reads as before, and at no moment was an image new
pub record Untouched {D : Type 0} (files : D → Image) (may_leave : D → Image → Type 0) (moment : D → ℕ) (left_since : D → ℕ → Image → Type 0) (old new : D) : Type 0 where
  pub same : files new ≡ files old
  pub outcomes : SameOutcomes (may_leave old) (may_leave new)
  pub run : LeavesOnly moment left_since old new (may_leave old)

-- the counts don't fall, that of the readers stays, and a disk that never fails has none more
pub record Counted {D : Type 0} (fault_count reader_fault_count : D → ℕ) (never_fails : D → Type 0) (old new : D) : Type 0 where
  pub later : fault_count old ≤ fault_count new
  pub readers : reader_fault_count new ≡ reader_fault_count old
  pub spared : never_fails old → never_fails new × (fault_count new ≡ fault_count old)
