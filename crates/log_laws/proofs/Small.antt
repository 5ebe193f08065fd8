-- Small facts of choices, numbers and lists.
use Rattle.std.proofs.Common.{◌≡◌, ◌⊎◌, refl, sym, ℕ, zero, suc, ◌<◌, ◌≤◌, Bool, true, false, true≢false, ◌&&◌, ◌||◌, List, [], ◌∷◌, Option, Some, nat_lt, map, length, arith}
use Rattle.std.specs.List.{slice_index_or}

pub and_true : (a b : Bool) → a ≡ true → b ≡ true → (a && b) ≡ true
and_true true b e f = f
and_true false b e f = absurd (true≢false (sym e))

pub and_false : (a : Bool) → (a && false) ≡ false
and_false true = refl
and_false false = refl

pub or_off : (a : Bool) → (a || false) ≡ a
or_off true = refl
or_off false = refl

pub some_is : {X : Type 0} (x y : X) → Some x ≡ Some y → x ≡ y
some_is x y e = cc e

pub le_or : (p q : ℕ) → p ≤ suc q → (p ≤ q) ⊎ (p ≡ suc q)
le_or p q h = grind arith

pub order : (a b : ℕ) → (a ≤ b) ⊎ (b < a)
order a b = grind arith

pub is_lt : (a b : ℕ) → a < b → nat_lt a b ≡ true
is_lt a b h = grind (arith, h)

pub not_lt : (a b : ℕ) → b ≤ a → nat_lt a b ≡ false
not_lt a b h = grind (arith, h)

pub lt_is : (a b : ℕ) → nat_lt a b ≡ true → a < b
lt_is a b e = grind arith

pub le_is : (a b : ℕ) → nat_lt a b ≡ false → b ≤ a
le_is a b e = grind arith

-- ---- lists that are one by one the same

first_is : {X : Type 0} (x y : X) (xs ys : List X) → x ∷ xs ≡ y ∷ ys → x ≡ y
first_is x y xs ys e = cc e

rest_is : {X : Type 0} (x y : X) (xs ys : List X) → x ∷ xs ≡ y ∷ ys → xs ≡ ys
rest_is x y xs ys e = cc e

-- each of the list comes from the one at its place
pub mapped_at : {X Y : Type 0} (f : X → Option Y) (xs : List X) (ys : List Y) → map f xs ≡ map Some ys → (k : ℕ) (x : X) (y : Y) → k < length ys → (k < length xs) × (f (slice_index_or xs k x) ≡ Some (slice_index_or ys k y))
mapped_at f xs [] e k x y less = absurd (omega (arith, less))
mapped_at f [] (b ∷ ys) e k x y less = absurd (cc e)
mapped_at f (a ∷ xs) (b ∷ ys) e zero x y less = (omega arith, first_is (f a) (Some b) (map f xs) (map Some ys) e)
mapped_at f (a ∷ xs) (b ∷ ys) e (suc k) x y less = (let r = mapped_at f xs ys (rest_is (f a) (Some b) (map f xs) (map Some ys) e) k x y (omega (arith, less)) in (omega (arith, r.0), r.1))
