-- Where the slot that holds a handle stands.
use Rattle.std.proofs.Common.{◌≡◌, ◌∙◌, refl, sym, ap, ℕ, suc, ◌+◌, ◌<◌, ℤ, Bool, true, false, true≢false, cond, int_le, int_lt, nat_lt, Option, Some, None, List, [], ◌∷◌, ◌++◌, length, take, drop, get_or, arith}
use Rattle.std.specs.Prelude.{position, option_map}
use Rattle.std.specs.List.{AllByRecursion, position_or_len}
use Rattle.std.proofs.lemmas.Bool.Decides.{nat_tests}
use Rattle.std.proofs.lemmas.Int.{ints}
use Rattle.std.proofs.lemmas.List.{length-take-le, take-append-drop}
use Rattle.flash_types.specs.Ranges.{holds, is_below}
use Rattle.segment_list.specs.Lists.{CoverTo}
use Rattle.segment_list.specs.Slots.{Slotted}
use Rattle.segment_list.proofs.Covers.{place_behind, place_here}
use Rattle.segment_list.proofs.Halves.{all_inside, lower_half, upper_half}
use Rattle.segment_list.proofs.Insides.{Inside, inside_holds}

module _ {X : Type 0} (p : X → Bool) where
  pub found_here : (x : X) (xs : List X) → p x ≡ true → position p (x ∷ xs) ≡ Some 0
  found_here x xs e = ap (λ (n : ℕ). cond (nat_lt n (length (x ∷ xs))) (Some n) None) (place_here p x xs e) ∙ ap (λ (t : Bool). cond t (Some 0) None) (first (length xs))
    where
      first : (n : ℕ) → nat_lt 0 (suc n) ≡ true
      first n = grind (arith, nat_tests)

  pub found_behind : (x : X) (xs : List X) → p x ≡ false → position p (x ∷ xs) ≡ option_map suc (position p xs)
  found_behind x xs e = ap (λ (n : ℕ). cond (nat_lt n (length (x ∷ xs))) (Some n) None) (place_behind p x xs e) ∙ ap (λ (t : Bool). cond t (Some (position_or_len p xs + 1)) None) (less (position_or_len p xs) (length xs)) ∙ moved (nat_lt (position_or_len p xs) (length xs)) (position_or_len p xs)
    where
      less : (n m : ℕ) → nat_lt (n + 1) (suc m) ≡ nat_lt n m
      less n m = grind (arith, nat_tests)

      moved : (t : Bool) (n : ℕ) → cond t (Some (n + 1)) None ≡ option_map suc (cond t (Some n) None)
      moved true n = (let e : n + 1 ≡ suc n = omega arith in ap (λ (m : ℕ). Some m) e)
      moved false n = refl

  found_none : (xs : List X) → AllByRecursion (λ (x : X). p x ≡ false) xs → position p xs ≡ None
  found_none [] all = refl
  found_none (x ∷ xs) all = found_behind x xs all.0 ∙ ap (option_map suc) (found_none xs all.1)

  found_left : (l r : List X) → AllByRecursion (λ (x : X). p x ≡ false) r → position p (l ++ r) ≡ position p l
  found_left [] r all = found_none r all
  found_left (x ∷ l) r all = by (p x) refl (found_left l r all)
    where
      by : (t : Bool) → p x ≡ t → position p (l ++ r) ≡ position p l → position p (x ∷ (l ++ r)) ≡ position p (x ∷ l)
      by true e rest = found_here x (l ++ r) e ∙ sym (found_here x l e)
      by false e rest = found_behind x (l ++ r) e ∙ ap (option_map suc) rest ∙ sym (found_behind x l e)

  none_less : (o : Option ℕ) → o ≡ option_map (λ (k : ℕ). 0 + k) o
  none_less None = refl
  none_less (Some k) = (let e : k ≡ 0 + k = omega arith in ap (λ (m : ℕ). Some m) e)

  one_further : (n : ℕ) (o : Option ℕ) → option_map suc (option_map (λ (k : ℕ). n + k) o) ≡ option_map (λ (k : ℕ). suc n + k) o
  one_further n None = refl
  one_further n (Some k) = (let e : suc (n + k) ≡ suc n + k = omega arith in ap (λ (m : ℕ). Some m) e)

  found_right : (l r : List X) → AllByRecursion (λ (x : X). p x ≡ false) l → position p (l ++ r) ≡ option_map (λ (k : ℕ). length l + k) (position p r)
  found_right [] r all = none_less (position p r)
  found_right (x ∷ l) r all = found_behind x (l ++ r) all.0 ∙ ap (option_map suc) (found_right l r all.1) ∙ one_further (length l) (position p r)

  -- the place in a list of one
  pub place_of_one : (xs : List X) (x : X) → 0 < length xs → length xs < 2 → x ≡ get_or xs 0 x → position p xs ≡ cond (p x) (Some 0) None
  place_of_one [] x some few is = absurd (omega arith)
  place_of_one (y ∷ z ∷ zs) x some few is = absurd (omega arith)
  place_of_one (y ∷ []) x some few is = by (p y) refl ∙ ap (λ (u : X). cond (p u) (Some 0) None) (sym is)
    where
      by : (t : Bool) → p y ≡ t → position p (y ∷ []) ≡ cond (p y) (Some 0) None
      by true e = found_here y [] e ∙ sym (ap (λ (t : Bool). cond t (Some 0) None) e)
      by false e = found_behind y [] e ∙ sym (ap (λ (t : Bool). cond t (Some 0) None) e)

not_held : (low h : ℤ) (high : Option ℤ) (s : Bool) → (s ≡ true → (int_le low h ≡ true) × (is_below h high ≡ true)) → (int_le low h ≡ false) → s ≡ false
not_held low h high false f out = refl
not_held low h high true f out = absurd (true≢false (sym (f refl).0 ∙ out))

not_below : (low h : ℤ) (high : Option ℤ) (s : Bool) → (s ≡ true → (int_le low h ≡ true) × (is_below h high ≡ true)) → (is_below h high ≡ false) → s ≡ false
not_below low h high false f out = refl
not_below low h high true f out = absurd (true≢false (sym (f refl).1 ∙ out))

above_false : (a h : ℤ) → int_lt h a ≡ true → int_le a h ≡ false
above_false a h e = grind (arith, ints)

module _ {G : Type 0} (h : ℤ) where
  has : Slotted G → Bool
  has s = holds s.range h

  none_above : (low : ℤ) (high : Option ℤ) (slots : List (Slotted G)) → AllByRecursion (λ (s : Slotted G). Inside low high s.range) slots → int_le low h ≡ false → AllByRecursion (λ (s : Slotted G). holds s.range h ≡ false) slots
  none_above low high [] all out = tt
  none_above low high (s ∷ ss) all out = (not_held low h high (holds s.range h) (inside_holds low high s.range h all.0) out, none_above low high ss all.1 out)

  none_below : (low : ℤ) (high : Option ℤ) (slots : List (Slotted G)) → AllByRecursion (λ (s : Slotted G). Inside low high s.range) slots → is_below h high ≡ false → AllByRecursion (λ (s : Slotted G). holds s.range h ≡ false) slots
  none_below low high [] all out = tt
  none_below low high (s ∷ ss) all out = (not_below low h high (holds s.range h) (inside_holds low high s.range h all.0) out, none_below low high ss all.1 out)

  pub place_lower : (high : Option ℤ) (low : ℤ) (m : ℕ) (slots : List (Slotted G)) (x : Slotted G) → 0 < m → m < length slots → x ≡ get_or slots m x → CoverTo high low slots → int_lt h x.range.low ≡ true → position (λ (s : Slotted G). holds s.range h) slots ≡ position (λ (s : Slotted G). holds s.range h) (take m slots)
  place_lower high low m slots x some within is c below =
      ap (position (λ (s : Slotted G). holds s.range h)) (sym (take-append-drop m slots))
      ∙ found_left (λ (s : Slotted G). holds s.range h) (take m slots) (drop m slots) (none_above x.range.low high (drop m slots) (all_inside high x.range.low (drop m slots) (upper_half high low m slots x some within is c)) (above_false x.range.low h below))

  pub place_upper : (high : Option ℤ) (low : ℤ) (m : ℕ) (slots : List (Slotted G)) (x : Slotted G) → 0 < m → m < length slots → x ≡ get_or slots m x → CoverTo high low slots → int_lt h x.range.low ≡ false → position (λ (s : Slotted G). holds s.range h) slots ≡ option_map (λ (k : ℕ). m + k) (position (λ (s : Slotted G). holds s.range h) (drop m slots))
  place_upper high low m slots x some within is c out =
      let long : length (take m slots) ≡ m = length-take-le m slots (omega arith) in
      ap (position (λ (s : Slotted G). holds s.range h)) (sym (take-append-drop m slots))
      ∙ found_right (λ (s : Slotted G). holds s.range h) (take m slots) (drop m slots) (none_below low (Some x.range.low) (take m slots) (all_inside (Some x.range.low) low (take m slots) (lower_half high low m slots x some within is c)) out)
      ∙ ap (λ (n : ℕ). option_map (λ (k : ℕ). n + k) (position (λ (s : Slotted G). holds s.range h) (drop m slots))) long
