-- What a hold tells in which the value stayed as it was.
use Rattle.std.proofs.Common.{◌≡◌, ◌∙◌, ℕ, ◌≤◌, [], ◌∷◌, ◌++◌, Option, Some, All, IfSome, IsSomeAnd, ap, sym, subst}
use Rattle.std.proofs.lemmas.List.Elements.{All-weaker}
use Rattle.turnstile.specs.Seats.{Sitting, taking, giving, pinning_at}
use Rattle.turn_hold.specs.Saw.{Saw}
use Rattle.turn_hold.proofs.Holding.{low_on, saw_of}

pub some_holds : {A : Type 0} (o : Option A) (x : A) (P : A → Type 0) → o ≡ Some x → P x → IsSomeAnd o P
some_holds o x P is h = subst (λ (o : Option _). IsSomeAnd o P) (sym is) h

module _ {X : Type 0} (count kept_from : X → ℕ) (follows : X → X → Type 0) (start : X) (P : X → Type 0) (old taken new : Sitting X) (x : X) where
  pub saw_same : taken ≡ taking old x taken.floor → new ≡ giving taken x (count x) (count x)
      → follows x start → All (follows x) old.seen → kept_from x ≤ taken.floor → IfSome old.pin (λ g. taken.floor ≤ g) → P x
      → Saw count kept_from follows start new old P
  saw_same took gave from all low pin is = record {
    value = x;
    last = ap (λ (s : Sitting X). s.seen) gave ∙ ap (λ (s : Sitting X). s.seen ++ x ∷ []) took;
    greatest = ap (λ (s : Sitting X). s.greatest) gave;
    from_start = from;
    grew = all;
    kept = low_on old.pin (kept_from x) taken.floor low pin;
    is = is;
  }

  pub saw_pinned : (p : Option ℕ) → taken ≡ taking old x taken.floor → new ≡ giving (pinning_at taken p) x (count x) (count x)
      → follows x start → All (follows x) old.seen → kept_from x ≤ taken.floor → IfSome old.pin (λ g. taken.floor ≤ g) → P x
      → Saw count kept_from follows start new old P
  saw_pinned p took gave from all low pin is = record {
    value = x;
    last = ap (λ (s : Sitting X). s.seen) gave ∙ ap (λ (s : Sitting X). s.seen ++ x ∷ []) took;
    greatest = ap (λ (s : Sitting X). s.greatest) gave;
    from_start = from;
    grew = all;
    kept = low_on old.pin (kept_from x) taken.floor low pin;
    is = is;
  }

  -- the same where the value became y
  pub saw_grown : (y : X) → ((a b c : X) → follows a b → follows b c → follows a c) → follows y x
      → taken ≡ taking old x taken.floor → IfSome taken.held (λ z. new ≡ giving taken y (count z) (count y))
      → follows x start → All (follows x) old.seen → kept_from y ≤ taken.floor → IfSome old.pin (λ g. taken.floor ≤ g) → P y
      → Saw count kept_from follows start new old P
  saw_grown y on grown took gave from all low pin is =
      saw_of count kept_from follows start P old taken new x y took gave
      (on y x start grown from)
      (All-weaker (follows x) (follows y) (λ z h. on y x z grown h) old.seen all)
      low pin is
