-- To be believed.
-- What a seat has seen in one hold of a turn, and what of it stays.
use Rattle.std.specs.Prelude.{◌≡◌, ℕ, ◌≤◌, [], ◌∷◌, ◌++◌, Option, None, All, IfSome}
use Rattle.turnstile.specs.Seats.{Sitting}

module _ {X : Type 0} where
  -- the same seat of the same turn, with the same numbers; it doesn't hold the turn
  pub record IsSameSeat (new old : Sitting X) : Type 0 where
    pub place : new.place ≡ old.place
    pub number : new.number ≡ old.number
    pub spare : new.spare ≡ old.spare
    pub parts : new.parts ≡ old.parts
    pub idle : new.held ≡ None

  -- The seat held the turn once, and gave this value back, which is now the last that it has seen. It grew from the value that the turn was made with, and from each that the seat had seen before. Nothing that the seat had pinned is gone from it.
  pub record Saw (count kept_from : X → ℕ) (follows : X → X → Type 0) (start : X) (new old : Sitting X) (P : X → Type 0) : Type 0 where
    pub value : X
    pub last : new.seen ≡ old.seen ++ value ∷ []
    pub greatest : new.greatest ≡ count value
    pub from_start : follows value start
    pub grew : All (follows value) old.seen
    pub kept : IfSome old.pin (λ pinned. kept_from value ≤ pinned)
    -- what this call says of it
    pub is : P value
