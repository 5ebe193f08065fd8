-- Numbers of files in a set, as they are noted.
use Rattle.std.proofs.Common.{◌≡◌, ◌∙◌, refl, sym, ap, ℕ, zero, suc, ◌+◌, Bool, true, false, cond, ltb, Option, Some, None, List, [], ◌∷◌, map, take, arith}
use Rattle.std.specs.Prelude.{◌||◌, ◌==◌}
use Rattle.std.specs.BTreeMap.{is_at}
use Rattle.std.specs.List.{list_any, slice_get}
use Rattle.std.specs.Ordering.{nat_cmp, is_eq}
use Rattle.std.specs.declared.cmp.Ordering.TheVariants.{Less, Equal, Greater}
use Rattle.std.proofs.lemmas.Bool.{ltb-true}

number_same : (a b : ℕ) → (a == b) ≡ true → a ≡ b
number_same a b h = grind (arith, h)

same_at : (a b : ℕ) → is_at (nat_cmp a) b ≡ (a == b)
same_at a b = by (ltb a b) (a == b) refl refl
  where
    by : (x y : Bool) → ltb a b ≡ x → (a == b) ≡ y → is_eq (cond x Less (cond y Equal Greater)) ≡ y
    by true true less same = absurd (omega (arith, ltb-true a b less, number_same a b same))
    by true false less same = refl
    by false true less same = refl
    by false false less same = refl

-- a number more
pub added : (file f : ℕ) (old new : Bool) → new ≡ cond (is_at (nat_cmp file) f) true old → new ≡ (file == f || old)
added file f old new is = by (is_at (nat_cmp file) f) (file == f) (same_at file f) is
  where
    by : (a b : Bool) → a ≡ b → new ≡ cond a true old → new ≡ (b || old)
    by true true same is = is
    by true false same is = absurd (cc same)
    by false true same is = absurd (cc same)
    by false false same is = is

-- ---- tests that are put together

pub or_assoc : (a b c : Bool) → (a || (b || c)) ≡ ((a || b) || c)
or_assoc true b c = refl
or_assoc false b c = refl

pub or_swap : (a b c : Bool) → (a || (b || c)) ≡ (b || (a || c))
or_swap true true c = refl
or_swap true false c = refl
or_swap false b c = refl

pub or_false : (a : Bool) → (a || false) ≡ a
or_false true = refl
or_false false = refl

-- the root, the manifest's file, the region file, those of segments, and the retired
pub put_together : (root own regions segments retired : Bool) → (root || (own || (regions || (segments || (retired || false))))) ≡ ((root || (own || (regions || segments))) || retired)
put_together true own regions segments retired = refl
put_together false true regions segments retired = refl
put_together false false true segments retired = refl
put_together false false false true retired = refl
put_together false false false false retired = or_false retired

-- a step of a loop that notes what an element has
pub one_more : (new here before old known : Bool) → new ≡ (here || known) → known ≡ (before || old) → new ≡ ((before || here) || old)
one_more new here before old known is was = is ∙ ap (λ k. here || k) was ∙ or_swap here before old ∙ or_assoc before here old
