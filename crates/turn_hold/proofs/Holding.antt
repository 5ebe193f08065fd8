-- What a hold tells, from what its steps tell.
use Rattle.std.proofs.Common.{◌≡◌, ℕ, ◌≤◌, List, [], ◌∷◌, ◌++◌, Option, Some, None, All, IfSome, ap, subst, arith}
use Rattle.turnstile.specs.Seats.{Sitting, taking, giving}
use Rattle.turn_hold.specs.Saw.{Saw}

pub low_on : (o : Option ℕ) (k f : ℕ) → k ≤ f → IfSome o (λ g. f ≤ g) → IfSome o (λ g. k ≤ g)
low_on None k f le h = tt
low_on (Some g) k f le h = omega (arith, le, h)

module _ {X : Type 0} (count : X → ℕ) where
  -- the seat after a take and a give
  pub stepped : (old taken new : Sitting X) (x y : X) → taken ≡ taking old x taken.floor → IfSome taken.held (λ z. new ≡ giving taken y (count z) (count y)) → new ≡ giving (taking old x taken.floor) y (count x) (count y)
  stepped old taken new x y took gave = subst (λ (s : Sitting X). IfSome s.held (λ z. new ≡ giving s y (count z) (count y))) took gave

module _ {X : Type 0} (count kept_from : X → ℕ) (follows : X → X → Type 0) where
  -- what a seat saw, which took x and gave y
  pub saw_of : (start : X) (P : X → Type 0) (old taken new : Sitting X) (x y : X)
      → taken ≡ taking old x taken.floor → IfSome taken.held (λ z. new ≡ giving taken y (count z) (count y))
      → follows y start → All (follows y) old.seen → kept_from y ≤ taken.floor → IfSome old.pin (λ g. taken.floor ≤ g) → P y
      → Saw count kept_from follows start new old P
  saw_of start P old taken new x y took gave from all low pin is =
      let e : new ≡ giving (taking old x taken.floor) y (count x) (count y) = stepped count old taken new x y took gave in
      record {
        value = y;
        last = ap (λ (s : Sitting X). s.seen) e;
        greatest = ap (λ (s : Sitting X). s.greatest) e;
        from_start = from;
        grew = all;
        kept = low_on old.pin (kept_from y) taken.floor low pin;
        is = is;
      }
