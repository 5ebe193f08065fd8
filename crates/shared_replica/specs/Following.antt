-- A replica follows itself in its turn, and following carries over two steps.
use Rattle.std.proofs.Common.{◌≡◌, ◌∙◌, ◌⊎◌, inl, inr, ⊎_elim, ℕ, ◌<◌, List, refl, sym, subst}
use Rattle.flash_io.specs.Image.{Image}
use Rattle.flash_io.specs.declared.disk.Disk.{Ghosts}
use Rattle.replica.specs.Learner.{Learner}
use Rattle.replica.proofs.Following.{follows_itself, follows_on}
use Rattle.shared_replica.specs.Turns.{TurnFollows}

module _ {D R G : Type 0} {d : Ghosts D R G} {bytes : G → List ℕ} where
  pub turn_itself : ((disk : D) (c : Image) → d.left_since disk (d.moment disk) c → d.may_leave disk c) → (bound : ℕ) (x : Learner D G) → TurnFollows d bytes bound x bound x
  turn_itself only_now bound x = record { same = refl; follows = follows_itself d bytes only_now x; applied = λ p h. h; below = λ p h. inl h }

  pub turn_on : {a b c : ℕ} {x y z : Learner D G} → TurnFollows d bytes a x b y → TurnFollows d bytes b y c z → TurnFollows d bytes a x c z
  turn_on {a = a} {x = x} {y = y} {z = z} late early = record {
    same = late.same ∙ early.same;
    follows = follows_on d bytes x y z late.follows early.follows;
    applied = λ p h. late.applied p (early.applied p h);
    below = λ p h. ⊎_elim (λ was. ⊎_elim (λ was. inl was) (λ low. inr (subst (λ (n : ℕ). p < n) (sym late.same) low)) (early.below p was)) (λ low. inr low) (late.below p h);
  }
