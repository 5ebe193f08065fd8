-- What is left of a list, as a loop meets it.
use Rattle.std.proofs.Common.{◌≡◌, ℕ, ◌+◌, ◌<◌, ◌≤◌, List, [], ◌∷◌, length, drop, get_or, refl, sym}
use Rattle.std.proofs.lemmas.List.{drop_more, drop_all}

-- what a function gives of the rest from place i on, by the item there
pub at_item : {X Y : Type 0} (F : List X → Y) (xs : List X) (i : ℕ) (d : X) → i < length xs → d ≡ get_or xs i d → F (drop i xs) ≡ F (d ∷ drop (i + 1) xs)
at_item F xs i d lt is = rw (drop_more xs i d lt, sym is) refl

pub at_end : {X Y : Type 0} (F : List X → Y) (xs : List X) (i : ℕ) → length xs ≤ i → F (drop i xs) ≡ F []
at_end F xs i past = rw (drop_all i xs past) refl
