-- A run of one call of the disk.
use Rattle.std.proofs.Common.{ℕ}
use Rattle.flash_io.specs.Image.{Image}
use Rattle.flash_io.specs.Crash.{Elapses, LeavesOnly}
use Rattle.flash_io.proofs.Moments.{started, goes_on}

-- after which a crash leaves what has P, and so does at first
pub one_call : {D : Type 0} (moment : D → ℕ) (left_since : D → ℕ → Image → Type 0) (may_leave : D → Image → Type 0) (old new : D) (P : Image → Type 0)
    → ((c : Image) → left_since old (moment old) c → may_leave old c) → Elapses (moment old) (moment new) (left_since old) (left_since new) (may_leave new)
    → ((c : Image) → may_leave old c → P c) → ((c : Image) → may_leave new c → P c) → LeavesOnly moment left_since old new P
one_call moment left_since may_leave old new P only_now time first then = goes_on moment left_since old old new P (may_leave new) (started moment left_since old P (λ c left. first c (only_now c left))) time then
