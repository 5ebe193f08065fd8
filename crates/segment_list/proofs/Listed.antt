-- Slots that cover all handles, by their handles and by their numbers.
use Rattle.std.proofs.Common.{◌≡◌, ◌∙◌, refl, sym, ap, subst, ℕ, zero, suc, ◌<◌, ℤ, Bool, true, false, true≢false, cond, Equal, ◌&&◌, ◌≢◌, ◌+◌, int_le, int_lt, nat_lt, nat_eq, Option, Some, None, List, [], ◌∷◌, length, map, take, get_or, arith}
use Rattle.std.specs.Prelude.{position, option_map}
use Rattle.std.specs.BTreeMap.{is_at}
use Rattle.std.specs.List.{AllByRecursion}
use Rattle.std.specs.Cmp.{Equal-is, nat_cmp_is}
use Rattle.std.specs.Ordering.{nat_cmp}
use Rattle.std.proofs.lemmas.Map.Lookups.{exact_unsigned}
use Rattle.std.proofs.lemmas.Bool.{false≢true, eqb-true}
use Rattle.std.proofs.lemmas.Bool.Decides.{nat_tests}
use Rattle.std.proofs.lemmas.Int.{ints}
use Rattle.std.proofs.Math.ListN.{get_or-map}
use Rattle.std.proofs.lemmas.List.{get_or-take, length-map, length-take-le}
use Rattle.std.proofs.lemmas.List.Quantifiers.{position-Some}
use Rattle.column_block.specs.declared.cell.Version.{Version}
use Rattle.column_file.specs.declared.file.ColumnFile.{ColumnFile}
use Rattle.flash_types.specs.Ranges.{has_any, holds, is_below, least_handle}
use Rattle.flash_types.specs.declared.range.HandleRange.{HandleRange}
use Rattle.good_replica.specs.Changed.{of_parts}
use Rattle.good_replica.specs.Good.{CoversFrom}
use Rattle.good_replica.specs.Trail.{Segment}
use Rattle.segment_list.specs.Lists.{AreNoted, AreSegments, CoverTo, NumbersDiffer, range_alone}
use Rattle.segment_list.specs.Slots.{Slotted, absorbed, added_file, cleared_file, key_of, pushed_some}
use Rattle.segment_list.proofs.Halves.{all_inside, lower_half}
use Rattle.segment_list.proofs.Insides.{Inside, both_true, inside_holds, le_itself}
use Rattle.segment_list.proofs.Places.{found_behind, found_here}
use Rattle.segment_list.proofs.Pushes.{absorbed_range}

-- ---- lists

at_index : {X : Type 0} (P : X → Type 0) (xs : List X) → AllByRecursion P xs → (k : ℕ) (d : X) → k < length xs → P (get_or xs k d)
at_index P [] all k d lt = absurd (omega arith)
at_index P (x ∷ xs) all zero d lt = all.0
at_index P (x ∷ xs) all (suc k) d lt = at_index P xs all.1 k d (omega arith)

pub nowhere : {X : Type 0} (p : X → Bool) (xs : List X) → ((k : ℕ) (d : X) → k < length xs → p (get_or xs k d) ≡ false) → position p xs ≡ None
nowhere p [] none = refl
nowhere p (x ∷ xs) none = found_behind p x xs (none 0 x (omega arith)) ∙ ap (option_map suc) (nowhere p xs (λ k d lt. none (suc k) d (omega arith)))

pub first_at : {X : Type 0} (p : X → Bool) (xs : List X) (k : ℕ) (d : X) → k < length xs → p (get_or xs k d) ≡ true → ((j : ℕ) → j < k → p (get_or xs j d) ≡ false) → position p xs ≡ Some k
first_at p [] k d lt is before = absurd (omega arith)
first_at p (x ∷ xs) zero d lt is before = found_here p x xs is
first_at p (x ∷ xs) (suc k) d lt is before = found_behind p x xs (before 0 (omega arith)) ∙ ap (option_map suc) (first_at p xs k d (omega arith) is (λ j less. before (suc j) (omega arith)))

no_more : (o : Option ℕ) → option_map suc o ≡ None → o ≡ None
no_more None e = refl
no_more (Some k) e = absurd (cc e)

none_all : {X : Type 0} (q : X → Bool) (xs : List X) → position q xs ≡ None → AllByRecursion (λ (x : X). q x ≡ false) xs
none_all q [] e = tt
none_all {X = X} q (x ∷ xs) e = by (q x) refl (none_all q xs)
  where
    by : (t : Bool) → q x ≡ t → (position q xs ≡ None → AllByRecursion (λ (y : X). q y ≡ false) xs) → (q x ≡ false) × AllByRecursion (λ (y : X). q y ≡ false) xs
    by true is rest = absurd (cc (sym e ∙ found_here q x xs is))
    by false is rest = (is, rest (no_more (position q xs) (sym (found_behind q x xs is) ∙ e)))

-- a test that fails wherever another one fails that is met at one place alone
module _ {X : Type 0} (p q : X → Bool) (xs : List X) (narrower : (k : ℕ) (d : X) → k < length xs → p (get_or xs k d) ≡ true → q (get_or xs k d) ≡ true) where
  fails_too : (k : ℕ) (d : X) → k < length xs → q (get_or xs k d) ≡ false → p (get_or xs k d) ≡ false
  fails_too k d lt out = by (p (get_or xs k d)) refl
    where
      by : (t : Bool) → p (get_or xs k d) ≡ t → p (get_or xs k d) ≡ false
      by false e = e
      by true e = absurd (true≢false (sym (narrower k d lt e) ∙ out))

  pub same_place : (k : ℕ) (d : X) → position q xs ≡ Some k → p (get_or xs k d) ≡ true → position p xs ≡ Some k
  same_place k d there is =
      let at = position-Some q xs k d there in
      first_at p xs k d at.0 is (λ j less. fails_too j d (omega (arith, less, at.0)) (at.2 j less))

  pub no_place : position q xs ≡ None → position p xs ≡ None
  no_place none = nowhere p xs (λ k d lt. fails_too k d lt (at_index (λ (x : X). q x ≡ false) xs (none_all q xs none) k d lt))

-- ---- slots

pub held_low : (r : HandleRange) → has_any r ≡ true → holds r r.low ≡ true
held_low r filled = ap (λ (x : Bool). x && is_below r.low r.high) (le_itself r.low) ∙ filled

apart : (h a : ℤ) → int_lt h a ≡ true → int_le a h ≡ true → ⊥
apart h a p q = grind (arith, ints)

pub get_same : {X : Type 0} (xs : List X) (k : ℕ) (d e : X) → k < length xs → get_or xs k d ≡ get_or xs k e
get_same [] k d e lt = absurd (omega arith)
get_same (y ∷ ys) zero d e lt = refl
get_same (y ∷ ys) (suc k) d e lt = get_same ys k d e (omega arith)

less_than : (m n : ℕ) → nat_lt m n ≡ true → m < n
less_than m n e = grind (arith, nat_tests)

same_number : (m n : ℕ) → nat_lt m n ≡ false → nat_lt n m ≡ false → m ≡ n
same_number m n e f = grind (arith, nat_tests)

not_above : (k i : ℕ) → k < i + 1 → nat_lt i k ≡ false
not_above k i lt = grind (arith, nat_tests)

at_itself : (n : ℕ) → is_at (nat_cmp n) n ≡ true
at_itself n = (Equal-is (nat_cmp n n)).1 (sym (nat_cmp_is n n Equal refl))

abbrev of_key : ℕ × HandleRange → Segment
of_key k = of_parts k.1 [] []

module _ {G : Type 0} where
  pub cover_from : (low : ℤ) (slots : List (Slotted G)) → CoversFrom low (map range_alone slots) → CoverTo None low slots
  cover_from low [] c = c
  cover_from low (s ∷ []) c = (c.0, c.1, ap (is_below s.range.low) c.1)
  cover_from low (s ∷ t ∷ more) c = (c.0, c.1, c.2, cover_from t.range.low (t ∷ more) c.3)

  pub each_filled : (high : Option ℤ) (low : ℤ) (slots : List (Slotted G)) → CoverTo high low slots → AllByRecursion (λ (s : Slotted G). has_any s.range ≡ true) slots
  each_filled high low [] c = absurd (false≢true c)
  each_filled high low (s ∷ []) c = (c.2, tt)
  each_filled high low (s ∷ t ∷ more) c = (c.2, each_filled high t.range.low (t ∷ more) c.3)

  -- a handle of a slot isn't one of a later slot
  not_later : (low : ℤ) (slots : List (Slotted G)) (h : ℤ) (i j : ℕ) (d : Slotted G) → CoverTo None low slots → i < j → j < length slots → holds (get_or slots i d).range h ≡ true → holds (get_or slots j d).range h ≡ true → ⊥
  not_later low slots h i j d c less within a b =
      let x : Slotted G = get_or slots j d in
      let same : x ≡ get_or slots j x = get_same slots j d x within in
      let half : CoverTo (Some x.range.low) low (take j slots) = lower_half None low j slots x (omega arith) within same c in
      let long : length (take j slots) ≡ j = length-take-le j slots (omega arith) in
      let inside : Inside low (Some x.range.low) (get_or (take j slots) i d).range = at_index (λ (s : Slotted G). Inside low (Some x.range.low) s.range) (take j slots) (all_inside (Some x.range.low) low (take j slots) half) i d (omega (arith, long, less)) in
      let there : holds (get_or (take j slots) i d).range h ≡ true = ap (λ (s : Slotted G). holds s.range h) (get_or-take j slots i d less) ∙ a in
      apart h x.range.low (inside_holds low (Some x.range.low) (get_or (take j slots) i d).range h inside there).1 (both_true (int_le x.range.low h) (is_below h x.range.high) b).0

  pub one_has : (low : ℤ) (slots : List (Slotted G)) (h : ℤ) (i j : ℕ) (d : Slotted G) → CoversFrom low (map range_alone slots) → i < length slots → j < length slots → holds (get_or slots i d).range h ≡ true → holds (get_or slots j d).range h ≡ true → i ≡ j
  one_has low slots h i j d c li lj a b = by (nat_lt i j) (nat_lt j i) refl refl
    where
      by : (s t : Bool) → nat_lt i j ≡ s → nat_lt j i ≡ t → i ≡ j
      by true t e f = absurd (not_later low slots h i j d (cover_from low slots c) (less_than i j e) lj a b)
      by false true e f = absurd (not_later low slots h j i d (cover_from low slots c) (less_than j i f) li b a)
      by false false e f = same_number i j e f

  -- ---- what an entry leaves

  pushed_id : (tag : ℕ) (o : Option ColumnFile) (s : Slotted G) → (pushed_some tag o s).id ≡ s.id
  pushed_id tag None s = refl
  pushed_id tag (Some f) s = refl

  absorbed_id : (tag : ℕ) (clears : Option HandleRange) (adds : List Version) (s : Slotted G) → (absorbed tag clears adds s).id ≡ s.id
  absorbed_id tag clears adds s = pushed_id tag (added_file s.range adds) (pushed_some tag (cleared_file s.range clears) s) ∙ pushed_id tag (cleared_file s.range clears) s

  pub same_keys : (tag : ℕ) (clears : Option HandleRange) (adds : List Version) (slots : List (Slotted G)) → map key_of (map (absorbed tag clears adds) slots) ≡ map key_of slots
  same_keys tag clears adds [] = refl
  same_keys tag clears adds (s ∷ ss) =
      ap (λ (n : ℕ). (n, (absorbed tag clears adds s).range) ∷ map key_of (map (absorbed tag clears adds) ss)) (absorbed_id tag clears adds s)
      ∙ ap (λ (r : HandleRange). (s.id, r) ∷ map key_of (map (absorbed tag clears adds) ss)) (absorbed_range tag clears adds s)
      ∙ ap (λ (r : List (ℕ × HandleRange)). key_of s ∷ r) (same_keys tag clears adds ss)

  by_keys : (slots : List (Slotted G)) → map range_alone slots ≡ map of_key (map key_of slots)
  by_keys [] = refl
  by_keys (s ∷ ss) = ap (λ (r : List Segment). range_alone s ∷ r) (by_keys ss)

  -- what is known of numbers and handles stays where they do
  pub segments_stay : (low_of : ℕ → Option ℤ) (noted : Bool) (new old : List (Slotted G)) → map key_of new ≡ map key_of old → AreSegments low_of noted old → AreSegments low_of noted new
  segments_stay low_of noted new old same are = record {
    cover = subst (CoversFrom least_handle) (by_keys old ∙ ap (map of_key) (sym same) ∙ sym (by_keys new)) are.cover;
    numbers = λ i j d less lt e. are.numbers i j d less (within j lt) (sym (ap (λ (q : ℕ × HandleRange). q.0) (one i d)) ∙ e ∙ ap (λ (q : ℕ × HandleRange). q.0) (one j d));
    found = λ yes k d lt. ap low_of (ap (λ (q : ℕ × HandleRange). q.0) (one k d)) ∙ are.found yes k d (within k lt) ∙ sym (ap (λ (q : ℕ × HandleRange). Some q.1.low) (one k d));
  }
    where
      one : (k : ℕ) (d : Slotted G) → key_of (get_or new k d) ≡ key_of (get_or old k d)
      one k d = sym (get_or-map key_of new k d) ∙ ap (λ (ks : List (ℕ × HandleRange)). get_or ks k (key_of d)) same ∙ get_or-map key_of old k d

      within : (k : ℕ) → k < length new → k < length old
      within k lt = omega (arith, lt, sym (length-map new key_of) ∙ ap length same ∙ length-map old key_of)

  -- ---- by number

  pub holds_its_low : (low_of : ℕ → Option ℤ) (slots : List (Slotted G)) (id : ℕ) (low : ℤ) → CoversFrom least_handle (map range_alone slots) → AreNoted low_of slots → low_of id ≡ Some low → (k : ℕ) (d : Slotted G) → k < length slots → nat_eq (get_or slots k d).id id ≡ true → holds (get_or slots k d).range low ≡ true
  holds_its_low low_of slots id low cover noted at k d lt is =
      let same : (get_or slots k d).id ≡ id = eqb-true (get_or slots k d).id id is in
      let begins : Some low ≡ Some (get_or slots k d).range.low = sym at ∙ ap low_of (sym same) ∙ noted k d lt in
      let low_is : low ≡ (get_or slots k d).range.low = some_same begins in
      ap (holds (get_or slots k d).range) low_is
      ∙ held_low (get_or slots k d).range (at_index (λ (s : Slotted G). has_any s.range ≡ true) slots (each_filled None least_handle slots (cover_from least_handle slots cover)) k d lt)
    where
      some_same : {a b : ℤ} → Some a ≡ Some b → a ≡ b
      some_same e = cc

  pub unknown_number : (low_of : ℕ → Option ℤ) (slots : List (Slotted G)) (id : ℕ) → AreNoted low_of slots → low_of id ≡ None → position (λ (s : Slotted G). nat_eq s.id id) slots ≡ None
  unknown_number low_of slots id noted none = nowhere (λ (s : Slotted G). nat_eq s.id id) slots (λ k d lt. by k d lt (nat_eq (get_or slots k d).id id) refl)
    where
      by : (k : ℕ) (d : Slotted G) → k < length slots → (t : Bool) → nat_eq (get_or slots k d).id id ≡ t → nat_eq (get_or slots k d).id id ≡ false
      by k d lt false e = e
      by k d lt true e = (let same : (get_or slots k d).id ≡ id = eqb-true (get_or slots k d).id id e in absurd (cc (sym none ∙ ap low_of (sym same) ∙ noted k d lt)))

  pub other_number : (low_of : ℕ → Option ℤ) (slots : List (Slotted G)) (id k : ℕ) (low : ℤ) (d : Slotted G) → CoversFrom least_handle (map range_alone slots) → AreNoted low_of slots → low_of id ≡ Some low → position (λ (s : Slotted G). holds s.range low) slots ≡ Some k → nat_eq (get_or slots k d).id id ≡ false → position (λ (s : Slotted G). nat_eq s.id id) slots ≡ None
  other_number low_of slots id k low d cover noted at there out = nowhere (λ (s : Slotted G). nat_eq s.id id) slots (λ j e lt. by j e lt (nat_eq (get_or slots j e).id id) refl)
    where
      by : (j : ℕ) (e : Slotted G) → j < length slots → (t : Bool) → nat_eq (get_or slots j e).id id ≡ t → nat_eq (get_or slots j e).id id ≡ false
      by j e lt false is = is
      by j e lt true is = (
          let found = position-Some (λ (s : Slotted G). holds s.range low) slots k e there in
          let same : j ≡ k = one_has least_handle slots low j k e cover lt found.0 (holds_its_low low_of slots id low cover noted at j e lt is) found.1 in
          absurd (true≢false (sym is ∙ ap (λ (n : ℕ). nat_eq (get_or slots n e).id id) same ∙ ap (λ (s : Slotted G). nat_eq s.id id) (get_same slots k e d found.0) ∙ out)))

  -- one more number is known
  pub one_more_low : (old new : ℕ → Option ℤ) (slots : List (Slotted G)) (i : ℕ) (x : Slotted G) → i < length slots → x ≡ get_or slots i x → NumbersDiffer slots → ((q : ℕ) → new q ≡ cond (is_at (nat_cmp x.id) q) (Some x.range.low) (old q)) → ((k : ℕ) (d : Slotted G) → k < i → old (get_or slots k d).id ≡ Some (get_or slots k d).range.low) → (k : ℕ) (d : Slotted G) → k < i + 1 → new (get_or slots k d).id ≡ Some (get_or slots k d).range.low
  one_more_low old new slots i x within is differ put known k d lt = by (nat_lt k i) (is_at (nat_cmp x.id) (get_or slots k d).id) refl refl
    where
      by : (s t : Bool) → nat_lt k i ≡ s → is_at (nat_cmp x.id) (get_or slots k d).id ≡ t → new (get_or slots k d).id ≡ Some (get_or slots k d).range.low
      by true true e at = absurd (differ k i x (less_than k i e) within (sym (ap (λ (s : Slotted G). s.id) (get_same slots k d x (omega (arith, less_than k i e, within)))) ∙ sym (exact_unsigned x.id (get_or slots k d).id ((Equal-is (nat_cmp x.id (get_or slots k d).id)).0 at)) ∙ ap (λ (s : Slotted G). s.id) is))
      by true false e at = put (get_or slots k d).id ∙ ap (λ (b : Bool). cond b (Some x.range.low) (old (get_or slots k d).id)) at ∙ known k d (less_than k i e)
      by false t e at = (
          let last : k ≡ i = same_number k i e (not_above k i lt) in
          let there : get_or slots k d ≡ x = ap (λ (n : ℕ). get_or slots n d) last ∙ get_same slots i d x within ∙ sym is in
          put (get_or slots k d).id ∙ ap (λ (s : Slotted G). cond (is_at (nat_cmp x.id) s.id) (Some x.range.low) (old s.id)) there ∙ ap (λ (b : Bool). cond b (Some x.range.low) (old x.id)) (at_itself x.id) ∙ ap (λ (s : Slotted G). Some s.range.low) (sym there))

  -- of other numbers nothing new is known
  pub still_noted : (old new : ℕ → Option ℤ) (x : Slotted G) (y : Option ℤ) (q : ℕ) → x.id ≢ q → new q ≡ cond (is_at (nat_cmp x.id) q) y (old q) → new q ≡ old q
  still_noted old new x y q other put = put ∙ by (is_at (nat_cmp x.id) q) refl
    where
      by : (t : Bool) → is_at (nat_cmp x.id) q ≡ t → cond (is_at (nat_cmp x.id) q) y (old q) ≡ old q
      by true at = absurd (other (exact_unsigned x.id q ((Equal-is (nat_cmp x.id q)).0 at)))
      by false at = ap (λ (b : Bool). cond b y (old q)) at
