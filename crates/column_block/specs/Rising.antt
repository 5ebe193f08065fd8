-- Numbers that rise.
use Rattle.std.specs.Prelude.{ℕ, ◌+◌, List, [], ◌∷◌, nat_lt, if◌then◌else◌, Option, Some, None}

-- the place of the first number that isn't above the one before it
abbrev pub fall_after : ℕ → ℕ → List ℕ → Option ℕ
fall_after before place [] = None
fall_after before place (x ∷ xs) = if nat_lt before x then fall_after x (place + 1) xs else Some place

abbrev pub first_fall : List ℕ → Option ℕ
first_fall [] = None
first_fall (x ∷ xs) = fall_after x 1 xs
