-- Small facts of numbers and choices.
use Rattle.std.proofs.Common.{◌≡◌, ℕ, suc, ◌≤◌, ℤ, Bool, true, false, true≢false, sym, ◌&&◌, ◌⊎◌, Option, Some, None, refl, arith}
use Rattle.std.proofs.lemmas.Int.{ints}
use Rattle.std.specs.Option.{option_or}
use Rattle.std.specs.Ordering.{int_eq}

pub int_same : (a b : ℤ) → int_eq a b ≡ true → a ≡ b
int_same a b e = grind (arith, ints)

pub int_itself : (a b : ℤ) → a ≡ b → int_eq a b ≡ true
int_itself a b e = grind (arith, ints)

pub le_or : (p q : ℕ) → p ≤ suc q → (p ≤ q) ⊎ (p ≡ suc q)
le_or p q h = grind arith

pub and_true : (a b : Bool) → a ≡ true → b ≡ true → (a && b) ≡ true
and_true true b e f = f
and_true false b e f = absurd (true≢false (sym e))

pub or_none_right : {X : Type 0} (o : Option X) → option_or o None ≡ o
or_none_right None = refl
or_none_right (Some x) = refl

pub some_is : {X : Type 0} (x y : X) → Some x ≡ Some y → x ≡ y
some_is x y e = cc
