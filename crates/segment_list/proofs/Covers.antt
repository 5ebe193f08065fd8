-- Where slots cover the handles, one holds the handle.
use Rattle.std.proofs.Common.{◌≡◌, ◌∙◌, refl, sym, ap, ℤ, ◌+◌, ◌<◌, Bool, true, false, true≢false, cond, ◌&&◌, int_le, int_lt, nat_lt, List, [], ◌∷◌, Some, None, length, map, arith}
use Rattle.std.specs.Prelude.{position, is_some}
use Rattle.std.specs.List.{position_or_len}
use Rattle.std.proofs.lemmas.Int.{ints}
use Rattle.std.proofs.lemmas.Bool.Decides.{nat_tests}
use Rattle.flash_types.specs.Ranges.{holds, is_below}
use Rattle.flash_types.specs.declared.range.HandleRange.{HandleRange}
use Rattle.good_replica.specs.Good.{CoversFrom}
use Rattle.segment_list.specs.Lists.{range_alone}
use Rattle.segment_list.specs.Slots.{Slotted}

not_below : (a b : ℤ) → int_lt a b ≡ false → int_le b a ≡ true
not_below a b e = grind (arith, ints)

holds_both : (range : HandleRange) (h : ℤ) → int_le range.low h ≡ true → is_below h range.high ≡ true → holds range h ≡ true
holds_both range h a b = ap (λ (x : Bool). x && is_below h range.high) a ∙ b

some_cond : {X : Type 0} (b : Bool) (x : X) → is_some (cond b (Some x) None) ≡ b
some_cond true x = refl
some_cond false x = refl

is_found : {X : Type 0} (p : X → Bool) (xs : List X) → is_some (position p xs) ≡ nat_lt (position_or_len p xs) (length xs)
is_found p xs = some_cond (nat_lt (position_or_len p xs) (length xs)) (position_or_len p xs)

found_lt : {X : Type 0} (p : X → Bool) (xs : List X) → is_some (position p xs) ≡ true → position_or_len p xs < length xs
found_lt p xs e = let t : nat_lt (position_or_len p xs) (length xs) ≡ true = sym (is_found p xs) ∙ e in grind (arith, nat_tests)

lt_found : {X : Type 0} (p : X → Bool) (xs : List X) → position_or_len p xs < length xs → is_some (position p xs) ≡ true
lt_found p xs h = let t : nat_lt (position_or_len p xs) (length xs) ≡ true = grind (arith, nat_tests) in is_found p xs ∙ t

pub place_here : {X : Type 0} (p : X → Bool) (x : X) (xs : List X) → p x ≡ true → position_or_len p (x ∷ xs) ≡ 0
place_here p x xs e = rw e refl

pub place_behind : {X : Type 0} (p : X → Bool) (x : X) (xs : List X) → p x ≡ false → position_or_len p (x ∷ xs) ≡ position_or_len p xs + 1
place_behind p x xs e = rw e (omega arith)

here : {X : Type 0} (p : X → Bool) (x : X) (xs : List X) → p x ≡ true → is_some (position p (x ∷ xs)) ≡ true
here p x xs e = let at : position_or_len p (x ∷ xs) ≡ 0 = place_here p x xs e in lt_found p (x ∷ xs) (omega (arith, at))

one_more : {X : Type 0} (p : X → Bool) (x : X) (xs : List X) → is_some (position p xs) ≡ true → is_some (position p (x ∷ xs)) ≡ true
one_more p x xs e = by (p x) refl
  where
    by : (b : Bool) → p x ≡ b → is_some (position p (x ∷ xs)) ≡ true
    by true is = here p x xs is
    by false is = (let at : position_or_len p (x ∷ xs) ≡ position_or_len p xs + 1 = place_behind p x xs is in let lt : position_or_len p xs < length xs = found_lt p xs e in lt_found p (x ∷ xs) (omega (arith, at, lt)))

module _ {G : Type 0} where
  has : (h : ℤ) → Slotted G → Bool
  has h s = holds s.range h

  pub has_slot : (low : ℤ) (slots : List (Slotted G)) (h : ℤ) → CoversFrom low (map range_alone slots) → int_le low h ≡ true → is_some (position (λ (s : Slotted G). holds s.range h) slots) ≡ true
  has_slot low [] h c le = absurd (true≢false (sym c))
  has_slot low (s ∷ []) h c le =
      here (λ (t : Slotted G). holds t.range h) s []
      (holds_both s.range h (ap (λ (x : ℤ). int_le x h) c.0 ∙ le) (ap (is_below h) c.1))
  has_slot low (s ∷ t ∷ more) h c le = by (int_lt h t.range.low) refl (has_slot t.range.low (t ∷ more) h c.3)
    where
      by : (b : Bool) → int_lt h t.range.low ≡ b → (int_le t.range.low h ≡ true → is_some (position (λ (u : Slotted G). holds u.range h) (t ∷ more)) ≡ true) → is_some (position (λ (u : Slotted G). holds u.range h) (s ∷ t ∷ more)) ≡ true
      by true e rest = here (λ (u : Slotted G). holds u.range h) s (t ∷ more) (holds_both s.range h (ap (λ (x : ℤ). int_le x h) c.0 ∙ le) (ap (is_below h) c.1 ∙ e))
      by false e rest = one_more (λ (u : Slotted G). holds u.range h) s (t ∷ more) (rest (not_below h t.range.low e))
