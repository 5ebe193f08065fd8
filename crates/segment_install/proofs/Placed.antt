-- Where the slots of an install stand, and that new slots have numbers of their own.
use Rattle.std.proofs.Common.{◌≡◌, ◌≢◌, ◌∙◌, refl, sym, ap, subst, ℕ, zero, suc, ◌+◌, ◌-◌, ◌<◌, ◌≤◌, ℤ, Bool, true, false, cond, Option, Some, None, List, [], ◌∷◌, ◌++◌, length, map, take, drop, get_or, nat_lt, arith}
use Rattle.std.specs.Prelude.{find, option_map, position, slice_get}
use Rattle.std.specs.List.{AllByRecursion}
use Rattle.std.proofs.lemmas.Bool.Decides.{nat_tests}
use Rattle.std.proofs.lemmas.List.{get_or-append-add, get_or_append_left, length-append, length-map, map-append}
use Rattle.std.proofs.Math.ListN.{get_or-map}
use Rattle.segment_list.specs.Lists.{CoverTo, NumbersDiffer, with_slots}
use Rattle.segment_list.specs.Slots.{Slotted}
use Rattle.segment_list.proofs.Places.{found_here, found_behind}
use Rattle.segment_list.proofs.Replacing.{ends_differ, fronts_differ, in_three, parts_differ}

-- ---- places

-- one that is found stands at the place that is found
pub record IsFoundAt {X : Type 0} (p : X → Bool) (xs : List X) (x : X) : Type 0 where
  pub place : ℕ
  pub first : position p xs ≡ Some place
  pub there : slice_get xs place ≡ Some x

pub found_at : {X : Type 0} (p : X → Bool) (xs : List X) (x : X) → find p xs ≡ Some x → IsFoundAt p xs x
found_at p [] x e = absurd (cc e)
found_at {X = X} p (y ∷ ys) x e = by (p y) refl (found_at p ys x)
  where
    by : (t : Bool) → p y ≡ t → (find p ys ≡ Some x → IsFoundAt p ys x) → IsFoundAt p (y ∷ ys) x
    by true is rest = record { place = 0; first = found_here p y ys is; there = sym (ap (λ (b : Bool). cond b (Some y) (find p ys)) is) ∙ e }
    by false is rest = (
        let one = rest (sym (ap (λ (b : Bool). cond b (Some y) (find p ys)) is) ∙ e) in
        record { place = suc one.place; first = found_behind p y ys is ∙ ap (option_map suc) one.first; there = one.there })

pub no_more : (o : Option ℕ) → option_map suc o ≡ None → o ≡ None
no_more None e = refl
no_more (Some k) e = absurd (cc e)

pub found_none : {X : Type 0} (p : X → Bool) (xs : List X) → position p xs ≡ None → find p xs ≡ None
found_none p [] e = refl
found_none {X = X} p (y ∷ ys) e = by (p y) refl (found_none p ys)
  where
    by : (t : Bool) → p y ≡ t → (position p ys ≡ None → find p ys ≡ None) → find p (y ∷ ys) ≡ None
    by true is rest = absurd (cc (sym e ∙ found_here p y ys is))
    by false is rest = ap (λ (b : Bool). cond b (Some y) (find p ys)) is ∙ rest (no_more (position p ys) (sym (found_behind p y ys is) ∙ e))

one_back : (o : Option ℕ) (k : ℕ) → option_map suc o ≡ Some k → (j : ℕ) × (o ≡ Some j) × (k ≡ suc j)
one_back None k e = absurd (cc e)
one_back (Some j) k e = (j, refl, (let same : suc j ≡ k = cc e in sym same))

-- what stands at a place that is found is what is found
pub found_there : {X : Type 0} (p : X → Bool) (xs : List X) (k : ℕ) → position p xs ≡ Some k → find p xs ≡ slice_get xs k
found_there p [] k e = absurd (cc e)
found_there {X = X} p (y ∷ ys) k e = by (p y) refl (found_there p ys)
  where
    by : (t : Bool) → p y ≡ t → ((j : ℕ) → position p ys ≡ Some j → find p ys ≡ slice_get ys j) → find p (y ∷ ys) ≡ slice_get (y ∷ ys) k
    by true is rest = (
        let zero_is : Some 0 ≡ Some k = sym (found_here p y ys is) ∙ e in
        let at : 0 ≡ k = cc zero_is in
        ap (λ (b : Bool). cond b (Some y) (find p ys)) is ∙ ap (slice_get (y ∷ ys)) at)
    by false is rest = (
        let back = one_back (position p ys) k (sym (found_behind p y ys is) ∙ e) in
        ap (λ (b : Bool). cond b (Some y) (find p ys)) is ∙ rest back.0 back.1 ∙ ap (slice_get (y ∷ ys)) (sym back.2))

pub inside : {X : Type 0} (xs : List X) (k : ℕ) (x : X) → slice_get xs k ≡ Some x → k < length xs
inside [] k x e = absurd (cc e)
inside (y ∷ ys) zero x e = omega arith
inside (y ∷ ys) (suc k) x e = let rest = inside ys k x e in omega (arith, rest)

pub stands : {X : Type 0} (xs : List X) (k : ℕ) (x d : X) → slice_get xs k ≡ Some x → get_or xs k d ≡ x
stands [] k x d e = absurd (cc e)
stands (y ∷ ys) zero x d e = cc e
stands (y ∷ ys) (suc k) x d e = stands ys k x d e

-- the elements from a place on
pub one_at : {X : Type 0} (xs : List X) (k : ℕ) (x : X) → slice_get xs k ≡ Some x → take 1 (drop k xs) ≡ x ∷ []
one_at [] k x e = absurd (cc e)
one_at {X = X} (y ∷ ys) zero x e = let same : y ≡ x = cc e in ap (λ (z : X). z ∷ []) same
one_at (y ∷ ys) (suc k) x e = one_at ys k x e

pub two_at : {X : Type 0} (xs : List X) (k : ℕ) (x y : X) → slice_get xs k ≡ Some x → slice_get xs (k + 1) ≡ Some y → take 2 (drop k xs) ≡ x ∷ y ∷ []
two_at [] k x y e f = absurd (cc e)
two_at (z ∷ []) zero x y e f = absurd (cc f)
two_at {X = X} (z ∷ w ∷ zs) zero x y e f = (let one : z ≡ x = cc e in let other : w ≡ y = cc f in ap (λ (u : X). u ∷ w ∷ []) one ∙ ap (λ (u : X). x ∷ u ∷ []) other)
two_at {X = X} (z ∷ zs) (suc k) x y e f = (let more : suc k + 1 ≡ suc (k + 1) = omega arith in two_at zs k x y e (sym (ap (slice_get (z ∷ zs)) more) ∙ f))

-- ---- numbers

module _ {G : Type 0} where
  -- numbers that are the same differ as before
  pub same_numbers : (new old : List (Slotted G)) → map (λ (s : Slotted G). s.id) new ≡ map (λ (s : Slotted G). s.id) old → NumbersDiffer old → NumbersDiffer new
  same_numbers new old same differ i j d less lt e =
      differ i j d less (omega (arith, lt, sym (length-map new (λ (s : Slotted G). s.id)) ∙ ap length same ∙ length-map old (λ (s : Slotted G). s.id)))
      (sym (one i) ∙ e ∙ one j)
    where
      one : (k : ℕ) → (get_or new k d).id ≡ (get_or old k d).id
      one k = sym (get_or-map (λ (s : Slotted G). s.id) new k d) ∙ ap (λ (ns : List ℕ). get_or ns k d.id) same ∙ get_or-map (λ (s : Slotted G). s.id) old k d

  -- one slot in the place of another with the same number
  pub one_differs : (place : ℕ) (s x : Slotted G) (slots : List (Slotted G)) → slice_get slots place ≡ Some s → x.id ≡ s.id → NumbersDiffer slots → NumbersDiffer (with_slots place 1 (x ∷ []) slots)
  one_differs place s x slots there same differ =
      same_numbers (with_slots place 1 (x ∷ []) slots) slots
      (map-append (λ (t : Slotted G). t.id) (take place slots) (x ∷ drop (place + 1) slots)
      ∙ ap (λ (n : ℕ). map (λ (t : Slotted G). t.id) (take place slots) ++ n ∷ map (λ (t : Slotted G). t.id) (drop (place + 1) slots)) same
      ∙ sym (map-append (λ (t : Slotted G). t.id) (take place slots) (s ∷ drop (place + 1) slots))
      ∙ ap (map (λ (t : Slotted G). t.id)) (ap (λ (os : List (Slotted G)). take place slots ++ (os ++ drop (place + 1) slots)) (sym (one_at slots place s there)) ∙ in_three place 1 slots))
      differ

  -- each of some numbers is below one
  AreBelow : ℕ → List (Slotted G) → Type 0
  AreBelow first slots = (k : ℕ) (d : Slotted G) → k < length slots → (get_or slots k d).id < first

  AreFrom : ℕ → List (Slotted G) → Type 0
  AreFrom first slots = (k : ℕ) (d : Slotted G) → k < length slots → first ≤ (get_or slots k d).id

  both_differ : (xs ys : List (Slotted G)) → NumbersDiffer xs → NumbersDiffer ys → ((i j : ℕ) (d : Slotted G) → i < length xs → j < length ys → (get_or xs i d).id ≢ (get_or ys j d).id) → NumbersDiffer (xs ++ ys)
  both_differ xs ys a b apart i j d less lt e = by (nat_lt i (length xs)) (nat_lt j (length xs)) refl refl
    where
      left : (k : ℕ) → k < length xs → (get_or (xs ++ ys) k d).id ≡ (get_or xs k d).id
      left k within = ap (λ (s : Slotted G). s.id) (get_or_append_left xs ys d k within)

      right : (k : ℕ) → length xs ≤ k → (get_or (xs ++ ys) k d).id ≡ (get_or ys (k - length xs) d).id
      right k past = (let far : length xs + (k - length xs) ≡ k = omega (arith, past) in ap (λ (n : ℕ). (get_or (xs ++ ys) n d).id) (sym far) ∙ ap (λ (s : Slotted G). s.id) (get_or-append-add xs ys (k - length xs) d))

      under : (m n : ℕ) → nat_lt m n ≡ true → m < n
      under m n is = grind (arith, nat_tests)

      over : (m n : ℕ) → nat_lt m n ≡ false → n ≤ m
      over m n is = grind (arith, nat_tests)

      by : (s t : Bool) → nat_lt i (length xs) ≡ s → nat_lt j (length xs) ≡ t → ⊥
      by true true p q = a i j d less (under j (length xs) q) (sym (left i (under i (length xs) p)) ∙ e ∙ left j (under j (length xs) q))
      by true false p q = apart i (j - length xs) d (under i (length xs) p) (omega (arith, lt, over j (length xs) q, length-append xs ys)) (sym (left i (under i (length xs) p)) ∙ e ∙ right j (over j (length xs) q))
      by false true p q = absurd (omega (arith, less, over i (length xs) p, under j (length xs) q))
      by false false p q = b (i - length xs) (j - length xs) d (omega (arith, less, over i (length xs) p)) (omega (arith, lt, over j (length xs) q, length-append xs ys)) (sym (right i (over i (length xs) p)) ∙ e ∙ right j (over j (length xs) q))

  below_parts : (first : ℕ) (xs ys : List (Slotted G)) → AreBelow first (xs ++ ys) → AreBelow first xs × AreBelow first ys
  unfolding AreBelow
  below_parts first xs ys all = (
    (λ k d lt. let one = all k d (omega (arith, lt, length-append xs ys)) in omega (arith, one, ap (λ (s : Slotted G). s.id) (get_or_append_left xs ys d k lt))),
    (λ k d lt. let one = all (length xs + k) d (omega (arith, lt, length-append xs ys)) in omega (arith, one, ap (λ (s : Slotted G). s.id) (get_or-append-add xs ys k d))),
  )

  below_at : (first : ℕ) (xs : List (Slotted G)) → AllByRecursion (λ (s : Slotted G). s.id < first) xs → AreBelow first xs
  unfolding AreBelow
  below_at first [] all k d lt = absurd (omega (arith, lt))
  below_at first (x ∷ xs) all zero d lt = all.0
  below_at first (x ∷ xs) all (suc k) d lt = below_at first xs all.1 k d (omega (arith, lt))

  -- new numbers beside old ones
  fresh_differ : (first : ℕ) (a o b news : List (Slotted G)) → AreBelow first (a ++ (o ++ b)) → NumbersDiffer (a ++ (o ++ b)) → NumbersDiffer news → AreFrom first news → NumbersDiffer (a ++ (news ++ b))
  unfolding AreBelow AreFrom
  fresh_differ first a o b news below differ apart from =
      both_differ a (news ++ b) (fronts_differ a (o ++ b) differ) (both_differ news b apart (ends_differ o b (ends_differ a (o ++ b) differ)) news_b) a_news
    where
      under : (m n : ℕ) → nat_lt m n ≡ true → m < n
      under m n is = grind (arith, nat_tests)

      over : (m n : ℕ) → nat_lt m n ≡ false → n ≤ m
      over m n is = grind (arith, nat_tests)

      above : (i : ℕ) (d : Slotted G) (n : ℕ) → i < length news → n < first → (get_or news i d).id ≡ n → ⊥
      above i d n lt low e = (let high = from i d lt in omega (arith, high, low, e))

      news_b : (i j : ℕ) (d : Slotted G) → i < length news → j < length b → (get_or news i d).id ≢ (get_or b j d).id
      news_b i j d li lj e = above i d (get_or b j d).id li ((below_parts first o b (below_parts first a (o ++ b) below).1).1 j d lj) e

      a_news : (i j : ℕ) (d : Slotted G) → i < length a → j < length (news ++ b) → (get_or a i d).id ≢ (get_or (news ++ b) j d).id
      a_news i j d li lj e = by (nat_lt j (length news)) refl
        where
          by : (t : Bool) → nat_lt j (length news) ≡ t → ⊥
          by true is = above j d (get_or a i d).id (under j (length news) is) ((below_parts first a (o ++ b) below).0 i d li) (ap (λ (s : Slotted G). s.id) (sym (get_or_append_left news b d j (under j (length news) is))) ∙ sym e)
          by false is = (
              let far : length news + (j - length news) ≡ j = omega (arith, over j (length news) is) in
              let there : get_or (news ++ b) j d ≡ get_or b (j - length news) d = ap (λ (n : ℕ). get_or (news ++ b) n d) (sym far) ∙ get_or-append-add news b (j - length news) d in
              parts_differ a (o ++ b) differ i (length o + (j - length news)) d li (omega (arith, lj, over j (length news) is, length-append news b, length-append o b))
              (e ∙ ap (λ (s : Slotted G). s.id) (there ∙ sym (get_or-append-add o b (j - length news) d))))

  -- slots with new numbers in the place of others
  pub new_differ : (first place count : ℕ) (news slots : List (Slotted G)) → AllByRecursion (λ (s : Slotted G). s.id < first) slots → NumbersDiffer slots → NumbersDiffer news → ((k : ℕ) (d : Slotted G) → k < length news → first ≤ (get_or news k d).id) → NumbersDiffer (with_slots place count news slots)
  unfolding AreBelow AreFrom
  new_differ first place count news slots all differ apart from =
      fresh_differ first (take place slots) (take count (drop place slots)) (drop (place + count) slots) news
      (subst (AreBelow first) (sym (in_three place count slots)) (below_at first slots all))
      (subst NumbersDiffer (sym (in_three place count slots)) differ)
      apart from

  -- ---- the next slot

  pub next_there : (low : ℤ) (slots : List (Slotted G)) (k : ℕ) (s : Slotted G) (h : ℤ) → CoverTo None low slots → slice_get slots k ≡ Some s → s.range.high ≡ Some h → (t : Slotted G) × (slice_get slots (k + 1) ≡ Some t) × (t.range.low ≡ h)
  next_there low [] k s h c e ends = absurd (cc e)
  next_there low (x ∷ []) zero s h c e ends = (let same : x ≡ s = cc e in absurd (cc (sym (ap (λ (y : Slotted G). y.range.high) same ∙ ends) ∙ c.1)))
  next_there low (x ∷ []) (suc k) s h c e ends = absurd (cc e)
  next_there low (x ∷ y ∷ more) zero s h c e ends = (let same : x ≡ s = cc e in (y, refl, some_int (sym c.1 ∙ ap (λ (z : Slotted G). z.range.high) same ∙ ends)))
    where
      some_int : {a b : ℤ} → Some a ≡ Some b → a ≡ b
      some_int e = cc e
  next_there low (x ∷ y ∷ more) (suc k) s h c e ends = (let rest = next_there y.range.low (y ∷ more) k s h c.3 e ends in let far : suc k + 1 ≡ suc (k + 1) = omega arith in (rest.0, ap (slice_get (x ∷ y ∷ more)) far ∙ rest.1, rest.2))
