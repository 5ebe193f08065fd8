-- What the slot that a job names, and those above it, give to a work.
use Rattle.std.proofs.Common.{◌≡◌, ◌∙◌, refl, sym, ap, subst, ℕ, ℤ, zero, suc, ◌+◌, ◌<◌, ◌≤◌, Bool, true, false, true≢false, List, [], ◌∷◌, Option, Some, None, length, map, take, drop, arith, add-one}
use Rattle.std.specs.Prelude.{position, option_map, unwrap_or, nat_lt, ◌==◌}
use Rattle.std.proofs.lemmas.Bool.Decides.{nat_tests}
use Rattle.delta_layer.specs.declared.built.Job.{Job}
use Rattle.delta_layer.specs.declared.built.Job.TheVariants.{Compact, MergeDelta, Split, Merge}
use Rattle.flash_types.specs.Ranges.{is_below}
use Rattle.good_replica.specs.Good.{CoversFrom}
use Rattle.segment_list.specs.Lists.{range_alone}
use Rattle.segment_list.specs.Slots.{Slotted, view_of}
use Rattle.segment_list.proofs.Places.{found_behind, found_here}
use Rattle.segment_work.specs.Begun.{AreFor, segments_for}
use Rattle.segment_work.specs.Jobs.{can_begin_on, has_any, segment_of, slots_from}

-- from a place on stand one that passes, and the others
pub record StandsAt {X : Type 0} (p : X → Bool) (xs : List X) (place : ℕ) : Type 0 where
  pub one : X
  pub more : List X
  pub are : drop place xs ≡ one ∷ more
  pub passes : p one ≡ true

pub stands_at : {X : Type 0} (p : X → Bool) (xs : List X) (place : ℕ) → position p xs ≡ Some place → StandsAt p xs place
stands_at p [] place e = absurd (cc e)
stands_at {X} p (x ∷ xs) place e = by (p x) refl (stands_at p xs)
  where
    behind : ((k : ℕ) → position p xs ≡ Some k → StandsAt p xs k) → (o : Option ℕ) → position p xs ≡ o → option_map suc o ≡ Some place → StandsAt p (x ∷ xs) place
    behind others None _ is = absurd (cc is)
    behind others (Some k) at is =
        (let there = others k at in
        let same : suc k ≡ place = cc is in
        subst (StandsAt p (x ∷ xs)) same (record { one = there.one; more = there.more; are = there.are; passes = there.passes }))

    by : (b : Bool) → p x ≡ b → ((k : ℕ) → position p xs ≡ Some k → StandsAt p xs k) → StandsAt p (x ∷ xs) place
    by true is others = (let same : zero ≡ place = cc (sym (found_here p x xs is) ∙ e) in subst (StandsAt p (x ∷ xs)) same (record { one = x; more = xs; are = refl; passes = is }))
    by false is others = behind others (position p xs) refl (sym (found_behind p x xs is) ∙ e)

pub stands_within : {X : Type 0} (xs : List X) (place : ℕ) (x : X) (more : List X) → drop place xs ≡ x ∷ more → place + suc (length more) ≡ length xs
stands_within [] zero x more e = absurd (cc e)
stands_within [] (suc place) x more e = absurd (cc e)
stands_within (y ∷ ys) zero x more e = let same : ys ≡ more = cc in omega (arith, ap length same)
stands_within (y ∷ ys) (suc place) x more e = let rest : place + suc (length more) ≡ length ys = stands_within ys place x more e in omega (arith, rest)

same_number : (a b : ℕ) → (a == b) ≡ true → a ≡ b
same_number a b e = grind (arith, nat_tests)

shifted : (a b : ℕ) (t : Bool) → nat_lt a b ≡ t → nat_lt (suc a) (suc b) ≡ t
shifted a b true e = let lt : a < b = grind (arith, nat_tests) in let more : suc a < suc b = omega (arith, lt) in grind (arith, nat_tests)
shifted a b false e = let le : b ≤ a = grind (arith, nat_tests) in let more : suc b ≤ suc a = omega (arith, le) in grind (arith, nat_tests)

module _ {G : Type 0} where
  -- where the first of some slots begins
  abbrev low_of : Slotted G → List (Slotted G) → ℤ
  low_of s [] = s.range.low
  low_of s (t ∷ ts) = t.range.low

  -- the slots from a place on cover the handles from there on
  pub covers_from : (low : ℤ) (slots : List (Slotted G)) (place : ℕ) (s : Slotted G) (more : List (Slotted G)) → CoversFrom low (map range_alone slots) → drop place slots ≡ s ∷ more → CoversFrom s.range.low (map range_alone (s ∷ more))
  covers_from low [] zero s more c e = absurd (cc e)
  covers_from low [] (suc place) s more c e = absurd (cc e)
  covers_from low (x ∷ []) zero s more c e = subst (λ (xs : List (Slotted G)). CoversFrom (low_of s xs) (map range_alone xs)) e (refl, c.1)
  covers_from low (x ∷ y ∷ ys) zero s more c e = subst (λ (xs : List (Slotted G)). CoversFrom (low_of s xs) (map range_alone xs)) e (refl, c.1, c.2, c.3)
  covers_from low (x ∷ []) (suc zero) s more c e = absurd (cc e)
  covers_from low (x ∷ []) (suc (suc place)) s more c e = absurd (cc e)
  covers_from low (x ∷ y ∷ ys) (suc place) s more c e = covers_from y.range.low (y ∷ ys) place s more c.3 e

  filled : (low : ℤ) (t : Slotted G) (more : List (Slotted G)) → CoversFrom low (map range_alone (t ∷ more)) → is_below t.range.low t.range.high ≡ true
  filled low t [] c = ap (is_below t.range.low) c.1
  filled low t (u ∷ us) c = c.2

  -- the views are those that the job needs
  pub are_for : (job : Job) (s : Slotted G) (more : List (Slotted G)) → s.id ≡ segment_of job → can_begin_on job (s ∷ more) ≡ true → CoversFrom s.range.low (map range_alone (s ∷ more)) → AreFor job (map view_of (take (segments_for job) (s ∷ more)))
  are_for (Compact seg) s more id can c = record { number = id; run = can }
  are_for (MergeDelta seg) s more id can c = id
  are_for (Split seg) s more id can c = id
  are_for (Merge seg) s [] id can c = absurd (true≢false (sym can))
  are_for (Merge seg) s (t ∷ more) id can c = record { number = id; touch = record { left_filled = c.2; right_filled = filled t.range.low t more c.3; seam = c.1 } }

  many_enough : (job : Job) (s : Slotted G) (more : List (Slotted G)) → can_begin_on job (s ∷ more) ≡ true → segments_for job ≤ suc (length more)
  many_enough (Compact seg) s more can = omega arith
  many_enough (MergeDelta seg) s more can = omega arith
  many_enough (Split seg) s more can = omega arith
  many_enough (Merge seg) s [] can = absurd (true≢false (sym can))
  many_enough (Merge seg) s (t ∷ more) can = omega arith

  -- from the place of a job's number on stand as many slots as it needs
  pub enough : (job : Job) (slots : List (Slotted G)) (place : ℕ) → position (λ (s : Slotted G). s.id == segment_of job) slots ≡ Some place → can_begin_on job (drop place slots) ≡ true → place + segments_for job ≤ length slots
  enough job slots place at can =
      let there = stands_at (λ (s : Slotted G). s.id == segment_of job) slots place at in
      let many : segments_for job ≤ suc (length there.more) = many_enough job there.one there.more (ap (can_begin_on job) (sym there.are) ∙ can) in
      let all : place + suc (length there.more) ≡ length slots = stands_within slots place there.one there.more there.are in
      omega (arith, many, all)

  -- what is begun at a place can be built
  pub begun_at : (job : Job) (slots : List (Slotted G)) (low : ℤ) (place : ℕ) → CoversFrom low (map range_alone slots) → position (λ (s : Slotted G). s.id == segment_of job) slots ≡ Some place → can_begin_on job (drop place slots) ≡ true → AreFor job (map view_of (take (segments_for job) (drop place slots)))
  begun_at job slots low place c at can =
      let there = stands_at (λ (s : Slotted G). s.id == segment_of job) slots place at in
      subst (λ (xs : List (Slotted G)). AreFor job (map view_of (take (segments_for job) xs))) (sym there.are)
      (are_for job there.one there.more (same_number there.one.id (segment_of job) there.passes) (ap (can_begin_on job) (sym there.are) ∙ can) (covers_from low slots place there.one there.more c there.are))

  -- ---- the tests at a place

  pub split_can : (seg : ℕ) (slots : List (Slotted G)) (place : ℕ) → place < length slots → can_begin_on (Split seg) (drop place slots) ≡ true
  split_can seg [] place within = absurd (omega arith)
  split_can seg (s ∷ more) zero within = refl
  split_can seg (s ∷ more) (suc place) within = split_can seg more place (omega arith)

  merge_can : (seg : ℕ) (slots : List (Slotted G)) (place : ℕ) → place < length slots → can_begin_on (Merge seg) (drop place slots) ≡ has_any (drop (suc place) slots)
  merge_can seg [] place within = absurd (omega arith)
  merge_can seg (s ∷ more) zero within = refl
  merge_can seg (s ∷ more) (suc place) within = merge_can seg more place (omega arith)

  any_from : (slots : List (Slotted G)) (place : ℕ) → nat_lt place (length slots) ≡ has_any (drop place slots)
  any_from [] zero = refl
  any_from [] (suc place) = grind (arith, nat_tests)
  any_from (s ∷ more) zero = grind (arith, nat_tests)
  any_from (s ∷ more) (suc place) = shifted place (length more) (nat_lt place (length more)) refl ∙ any_from more place

  pub merge_has_next : (seg : ℕ) (slots : List (Slotted G)) (place : ℕ) → place < length slots → nat_lt (place + 1) (length slots) ≡ can_begin_on (Merge seg) (drop place slots)
  merge_has_next seg slots place within =
      ap (λ (n : ℕ). nat_lt n (length slots)) (add-one place) ∙ any_from slots (suc place) ∙ sym (merge_can seg slots place within)
