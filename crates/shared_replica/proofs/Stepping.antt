-- A step that applies nothing is a step of the turn.
use Rattle.std.proofs.Common.{◌≡◌, ◌∙◌, inl, ℕ, Bool, true, false, List, refl, sym, ap}
use Rattle.flash_io.specs.declared.disk.Disk.{Ghosts}
use Rattle.replica_state.specs.Core.{full}
use Rattle.segment_flush.specs.Flushing.{has_more}
use Rattle.replica.specs.Follows.{Follows}
use Rattle.replica.specs.Learner.{Learner}
use Rattle.replica.specs.Steps.{HasFlushed}
use Rattle.shared_replica.specs.Turns.{TurnFollows}

module _ {D R G : Type 0} {d : Ghosts D R G} {bytes : G → List ℕ} where
  pub turn_alike : (bound : ℕ) (x y : Learner D G) → Follows d bytes x y → full x.core ≡ full y.core → TurnFollows d bytes bound x bound y
  turn_alike bound x y follows same = record {
    same = refl;
    follows = follows;
    applied = λ p h. ap (λ (A : ℕ → Bool). A p) same ∙ h;
    below = λ p h. inl (sym (ap (λ (A : ℕ → Bool). A p) same) ∙ h);
  }

module _ {D G : Type 0} where
  -- a flush applies nothing
  pub flush_full : (seg versions : ℕ) (old new : Learner D G) → HasFlushed seg versions old new → full new.core ≡ full old.core
  flush_full seg versions old new did = by (has_more did.slot) refl
    where
      by : (b : Bool) → has_more did.slot ≡ b → full new.core ≡ full old.core
      by true e = ap full (did.flushed e)
      by false e = ap (λ (r : Learner D G). full r.core) (did.same e)
