-- Handles rise where handles and timestamps do.
use Rattle.std.proofs.Common.{◌≡◌, subst, ℕ, zero, suc, ℤ, ◌<◌, ◌≤◌, ◌<ℤ◌, ◌≤ℤ◌, ◌+◌, List, [], ◌∷◌, Some, slice_get, arith}
use Rattle.std.proofs.lemmas.Int.{ints}
use Rattle.std.specs.declared.cmp.Ordering.{Ordering}
use Rattle.std.specs.declared.cmp.Ordering.TheVariants.{Less, Equal, Greater}
use Rattle.std.specs.Ordering.{MatchOrdering, nat_cmp, int_cmp, ordering_then}
use Rattle.std.specs.Cmp.{int_ranks}
use Rattle.std.specs.List.{AllByRecursion}
use Rattle.std.specs.List.Sorted.{IsStrictlySortedBy}
use Rattle.std.specs.Map.{keys_of}
use Rattle.delta_index.specs.Indexes.{Entry, AreRising}
use Rattle.column_block.specs.Order.{key_cmp}

by_ranks : (x y : ℤ) (r s : Ordering) → MatchOrdering r (x <ℤ y) (x ≡ y) (y <ℤ x) → ordering_then r s ≡ Less → x ≤ℤ y
by_ranks x y Less s h less = omega (arith, ints)
by_ranks x y Equal s h less = omega (arith, ints)
by_ranks x y Greater s h less = absurd (cc less)

not_above : (a b : ℤ × ℕ) → key_cmp a b ≡ Less → a.0 ≤ℤ b.0
not_above a b less = by_ranks a.0 b.0 (int_cmp a.0 b.0) (nat_cmp a.1 b.1) (int_ranks a.0 b.0) less

above_at : (key : ℤ × ℕ) (es : List Entry) (j : ℕ) (b : Entry) → AllByRecursion (λ y. key_cmp key y ≡ Less) (keys_of es) → slice_get es j ≡ Some b → key.0 ≤ℤ b.0.0
above_at key [] j b a is = absurd (cc is)
above_at key (e ∷ es) zero b a is = let same : e ≡ b = cc is in subst (λ (t : Entry). key.0 ≤ℤ t.0.0) same (not_above key e.0 a.0)
above_at key (e ∷ es) (suc j) b a is = above_at key es j b a.1 is

-- a later entry's handle isn't below an earlier one's
pub handles_rise : (es : List Entry) (i j : ℕ) (a b : Entry) → AreRising es → i ≤ j → slice_get es i ≡ Some a → slice_get es j ≡ Some b → a.0.0 ≤ℤ b.0.0
unfolding IsStrictlySortedBy
handles_rise [] i j a b up le is is' = absurd (cc is)
handles_rise (e ∷ es) zero zero a b up le is is' = let same : a ≡ b = cc (is, is') in subst (λ (t : Entry). a.0.0 ≤ℤ t.0.0) same (omega (arith, ints))
handles_rise (e ∷ es) zero (suc j) a b up le is is' = let same : e ≡ a = cc is in subst (λ (t : Entry). t.0.0 ≤ℤ b.0.0) same (above_at e.0 es j b up.0 is')
handles_rise (e ∷ es) (suc i) zero a b up le is is' = absurd (omega arith)
handles_rise (e ∷ es) (suc i) (suc j) a b up le is is' = handles_rise es i j a b up.1 (omega arith) is is'

-- what a middle entry tells of those before it, and of those from it on
pub before_more : (es : List Entry) (middle : ℕ) (here : Entry) (key : ℤ) → AreRising es → slice_get es middle ≡ Some here → here.0.0 <ℤ key
    → (k : ℕ) (e : Entry) → k < middle + 1 → slice_get es k ≡ Some e → e.0.0 <ℤ key
before_more es middle here key up at less k e lt is = omega (arith, ints, less, handles_rise es k middle e here up (omega arith) is at)

pub from_here : (es : List Entry) (middle : ℕ) (here : Entry) (key : ℤ) → AreRising es → slice_get es middle ≡ Some here → key ≤ℤ here.0.0
    → (k : ℕ) (e : Entry) → middle ≤ k → slice_get es k ≡ Some e → key ≤ℤ e.0.0
from_here es middle here key up at le k e ge is = omega (arith, ints, le, handles_rise es middle k here e up ge at is)
