-- To be believed.
-- How the replica that a turn holds follows an earlier one of the same turn.
use Rattle.std.specs.Prelude.{◌≡◌, ◌⊎◌, ℕ, ◌<◌, true, List}
use Rattle.flash_io.specs.declared.disk.Disk.{Ghosts}
use Rattle.committed_log.specs.Laws.{IsInside}
use Rattle.replica_state.specs.Core.{full}
use Rattle.replica.specs.Follows.{Follows}
use Rattle.replica.specs.Learner.{Learner}

-- The bound stays, and the replica follows the earlier one: what was applied stays so, and each entry that was applied since stands below the bound.
pub record TurnFollows {D R G : Type 0} (d : Ghosts D R G) (bytes : G → List ℕ) (bound : ℕ) (new : Learner D G) (before : ℕ) (old : Learner D G) : Type 0 where
  pub same : bound ≡ before
  pub follows : Follows d bytes new old
  pub applied : IsInside (full old.core) (full new.core)
  pub below : (p : ℕ) → full new.core p ≡ true → (full old.core p ≡ true) ⊎ (p < bound)
