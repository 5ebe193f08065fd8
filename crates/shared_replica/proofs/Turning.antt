-- An apply below the bound is a step of the turn.
use Rattle.std.proofs.Common.{◌≡◌, ◌∙◌, ◌⊎◌, inl, inr, ⊎_elim, ℕ, ◌<◌, Bool, true, false, List, refl, sym, ap, subst, arith}
use Rattle.std.specs.Prelude.{◌||◌, ◌==◌}
use Rattle.std.proofs.lemmas.Bool.{eqb-true, eq-eqb}
use Rattle.flash_io.specs.Image.{Image}
use Rattle.flash_io.specs.declared.disk.Disk.{Ghosts}
use Rattle.committed_log.specs.Applied.{with_position}
use Rattle.committed_log.specs.Laws.{IsInside}
use Rattle.replica_state.specs.Applying.{HasApplied}
use Rattle.replica_state.specs.Core.{Core, full}
use Rattle.replica.specs.Follows.{Follows}
use Rattle.replica.specs.Learner.{Learner}
use Rattle.shared_replica.specs.Following.{turn_itself}
use Rattle.shared_replica.specs.Turns.{TurnFollows}

or_right : (a b : Bool) → b ≡ true → (a || b) ≡ true
or_right true b h = refl
or_right false b h = h

one_of : (a b : Bool) → (a || b) ≡ true → (a ≡ true) ⊎ (b ≡ true)
one_of true b h = inl refl
one_of false b h = inr h

module _ {D R G : Type 0} {d : Ghosts D R G} {bytes : G → List ℕ} where
  -- the same replica again
  pub turn_same : {bound : ℕ} {x y : Learner D G} → ((disk : D) (c : Image) → d.left_since disk (d.moment disk) c → d.may_leave disk c) → x ≡ y → TurnFollows d bytes bound x bound y
  turn_same {bound = bound} {x = x} {y = y} only_now same = subst (λ (z : Learner D G). TurnFollows d bytes bound x bound z) same (turn_itself only_now bound x)

  -- an entry below the bound
  pub turn_applied : (bound p : ℕ) (x y : Learner D G) → p < bound → Follows d bytes x y → HasApplied y.core p x.core → TurnFollows d bytes bound x bound y
  turn_applied bound p x y low follows did = record {
    same = refl;
    follows = follows;
    applied = λ q h. ap (λ (A : ℕ → Bool). A q) did.set ∙ or_right (q == p) (full y.core q) h;
    below = λ q h. ⊎_elim (λ it. inr (subst (λ (n : ℕ). n < bound) (sym (eqb-true q p it)) low)) (λ was. inl was) (one_of (q == p) (full y.core q) (sym (ap (λ (A : ℕ → Bool). A q) did.set) ∙ h));
  }

module _ {G : Type 0} where
  pub now_there : (p : ℕ) (old new : Core G) → HasApplied old p new → full new p ≡ true
  now_there p old new did = ap (λ (A : ℕ → Bool). A p) did.set ∙ same_or (p == p) (full old p) (eq-eqb p p refl)
    where
      same_or : (a b : Bool) → a ≡ true → (a || b) ≡ true
      same_or true b h = refl
      same_or false b h = absurd (cc h)
