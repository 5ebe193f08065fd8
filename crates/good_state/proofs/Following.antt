-- A state follows itself, and following carries over two steps.
use Rattle.std.proofs.Common.{◌≡◌, ◌∙◌, ℕ, zero, suc, ◌+◌, ◌-◌, ◌<◌, ◌≤◌, Bool, true, false, List, [], ◌∷◌, ◌++◌, length, take, drop, Option, Some, None, refl, sym, ap, subst, arith, append-nil, append_assoc, length-append}
use Rattle.std.specs.Prelude.{◌||◌, ◌==◌}
use Rattle.std.specs.List.{AllByRecursion, list_any}
use Rattle.column_file.specs.declared.file.ColumnFile.{ColumnFile}
use Rattle.delta_layer.specs.Files.{is_tiny}
use Rattle.replica_state.specs.Core.{Core, opened}
use Rattle.segment_list.specs.Slots.{Slotted}
use Rattle.committed_log.specs.Laws.{IsInside}
use Rattle.good_state.specs.Good.{committed_set}
use Rattle.good_state.specs.Follows.{HasGrown, SlotFollows, slot_of, StateFollows}

-- ---- lists

drop_both : {X : Type 0} (n : ℕ) (xs ys : List X) → drop n (xs ++ ys) ≡ drop n xs ++ drop (n - length xs) ys
drop_both zero xs ys = let is : 0 - length xs ≡ 0 = omega arith in ap (λ k. xs ++ drop k ys) (sym is)
drop_both {X = X} (suc n) [] ys = let is : suc n - 0 ≡ suc n = omega arith in ap (λ k. drop k ys) (sym is)
drop_both (suc n) (x ∷ xs) ys = let is : suc n - length (x ∷ xs) ≡ n - length xs = omega arith in drop_both n xs ys ∙ ap (λ k. drop n xs ++ drop k ys) (sym is)

drop_none : {X : Type 0} (n : ℕ) → ◌≡◌ {A = List X} (drop n []) []
drop_none zero = refl
drop_none (suc n) = refl

drop_twice : {X : Type 0} (n m : ℕ) (xs : List X) → drop n (drop m xs) ≡ drop (m + n) xs
drop_twice n zero xs = let is : 0 + n ≡ n = omega arith in ap (λ k. drop k xs) (sym is)
drop_twice n (suc m) [] = drop_none n ∙ sym (drop_none (suc m + n))
drop_twice n (suc m) (x ∷ xs) = let is : suc m + n ≡ suc (m + n) = omega arith in drop_twice n m xs ∙ ap (λ k. drop k (x ∷ xs)) (sym is)

all_append : {X : Type 0} (P : X → Type 0) (xs ys : List X) → AllByRecursion P xs → AllByRecursion P ys → AllByRecursion P (xs ++ ys)
all_append P [] ys a b = b
all_append P (x ∷ xs) ys a b = (a.0, all_append P xs ys a.1 b)

all_drop : {X : Type 0} (P : X → Type 0) (n : ℕ) (xs : List X) → AllByRecursion P xs → AllByRecursion P (drop n xs)
all_drop P zero xs a = a
all_drop P (suc n) [] a = a
all_drop P (suc n) (x ∷ xs) a = all_drop P n xs a.1

all_above : (a b : ℕ) → a ≤ b → (tags : List ℕ) → AllByRecursion (λ tag. b < tag) tags → AllByRecursion (λ tag. a < tag) tags
all_above a b le [] h = h
all_above a b le (tag ∷ tags) h = (omega (arith, le, h.0), all_above a b le tags h.1)

or_mono : (a b c : Bool) → (b ≡ true → c ≡ true) → (a || b) ≡ true → (a || c) ≡ true
or_mono true b c f h = refl
or_mono false b c f h = f h

-- what is among the first ones is among more of a longer list
listed_later : (k n : ℕ) (xs more : List ℕ) (p : ℕ) → k ≤ n → list_any (λ (q : ℕ). p == q) (take k xs) ≡ true → list_any (λ (q : ℕ). p == q) (take n (xs ++ more)) ≡ true
listed_later zero n xs more p le h = absurd (cc h)
listed_later (suc k) n [] more p le h = absurd (cc h)
listed_later (suc k) zero (x ∷ xs) more p le h = absurd (omega (arith, le))
listed_later (suc k) (suc n) (x ∷ xs) more p le h = or_mono (p == x) (list_any (λ (q : ℕ). p == q) (take k xs)) (list_any (λ (q : ℕ). p == q) (take n (xs ++ more))) (listed_later k n xs more p (omega (arith, le))) h

-- ---- segments

module _ {G : Type 0} where
  pub grown_itself : (applied : ℕ) (s : Slotted G) → HasGrown applied s s
  grown_itself applied s = record {
    range = refl;
    stable = refl;
    stable_number = refl;
    named = omega arith;
    more = [];
    files = sym (append-nil s.files);
    no_tiny = tt;
    more_tags = [];
    tags = let is : s.named - s.named ≡ 0 = omega arith in ap (λ n. drop n s.tags) (sym is) ∙ sym (append-nil (drop (s.named - s.named) s.tags));
    above = tt;
  }

  pub grown_on : (early late : ℕ) → early ≤ late → (t u s : Slotted G) → HasGrown late t u → HasGrown early u s → HasGrown early t s
  grown_on early late le t u s b a =
      let n = t.named - u.named in
      let m = u.named - s.named in
      let sums : m + n ≡ t.named - s.named = omega (arith, a.named, b.named) in
      record {
        range = b.range ∙ a.range;
        stable = b.stable ∙ a.stable;
        stable_number = b.stable_number ∙ a.stable_number;
        named = omega (arith, a.named, b.named);
        more = a.more ++ b.more;
        files = b.files ∙ ap (λ (l : List ColumnFile). l ++ b.more) a.files ∙ append_assoc s.files a.more b.more;
        no_tiny = all_append (λ (f : ColumnFile). is_tiny f ≡ false) a.more b.more a.no_tiny b.no_tiny;
        more_tags = drop (n - length (drop m s.tags)) a.more_tags ++ b.more_tags;
        tags = b.tags ∙ ap (λ (l : List ℕ). drop n l ++ b.more_tags) a.tags
            ∙ ap (λ (l : List ℕ). l ++ b.more_tags) (drop_both n (drop m s.tags) a.more_tags)
            ∙ append_assoc (drop n (drop m s.tags)) (drop (n - length (drop m s.tags)) a.more_tags) b.more_tags
            ∙ ap (λ (l : List ℕ). l ++ (drop (n - length (drop m s.tags)) a.more_tags ++ b.more_tags)) (drop_twice n m s.tags ∙ ap (λ k. drop k s.tags) sums);
        above = all_append (λ tag. early < tag) (drop (n - length (drop m s.tags)) a.more_tags) b.more_tags (all_drop (λ tag. early < tag) (n - length (drop m s.tags)) a.more_tags a.above) (all_above early late le b.more_tags b.above);
      }

  pub slot_itself : (applied : ℕ) (o : Option (Slotted G)) → SlotFollows applied o o
  slot_itself applied None = tt
  slot_itself applied (Some s) = record { epoch = omega arith; grown = λ same. grown_itself applied s }

  pub slot_on : (early late : ℕ) → early ≤ late → (x y z : Option (Slotted G)) → SlotFollows late x y → SlotFollows early y z → SlotFollows early x z
  slot_on early late le None y z b a = tt
  slot_on early late le (Some t) None z b a = absurd b
  slot_on early late le (Some t) (Some u) None b a = absurd a
  slot_on early late le (Some t) (Some u) (Some s) b a = record {
    epoch = omega (arith, a.epoch, b.epoch);
    grown = λ same. grown_on early late le t u s (b.grown (omega (arith, same, a.epoch, b.epoch))) (a.grown (omega (arith, same, a.epoch, b.epoch)));
  }

  -- ---- what is in memory

  pub core_itself : (s : Core G) → StateFollows s s
  core_itself s = record {
    log = refl;
    settings = refl;
    mark = refl;
    opened = λ p. refl;
    listed = ([], sym (append-nil s.listed));
    count = omega arith;
    committed = omega arith;
    high = omega arith;
    safe_point = omega arith;
    next = omega arith;
    generation = omega arith;
    kept_from = omega arith;
    slots = λ id low. slot_itself (length s.listed) (slot_of id s.slots);
  }

  pub longer : (x y : Core G) → StateFollows x y → length y.listed ≤ length x.listed
  longer x y follows = omega (arith, ap length follows.listed.1, length-append y.listed follows.listed.0)

  pub core_on : (x y z : Core G) → StateFollows x y → StateFollows y z → StateFollows x z
  core_on x y z b a = record {
    log = b.log ∙ a.log;
    settings = b.settings ∙ a.settings;
    mark = b.mark ∙ a.mark;
    opened = λ p. b.opened p ∙ a.opened p;
    listed = (a.listed.0 ++ b.listed.0, b.listed.1 ∙ ap (λ (l : List ℕ). l ++ b.listed.0) a.listed.1 ∙ append_assoc z.listed a.listed.0 b.listed.0);
    count = omega (arith, a.count, b.count);
    committed = omega (arith, a.committed, b.committed);
    high = omega (arith, a.high, b.high);
    safe_point = omega (arith, a.safe_point, b.safe_point);
    next = omega (arith, a.next, b.next);
    generation = omega (arith, a.generation, b.generation);
    kept_from = omega (arith, a.kept_from, b.kept_from);
    slots = λ id low. slot_on (length z.listed) (length y.listed) (longer y z a) (slot_of id x.slots) (slot_of id y.slots) (slot_of id z.slots) (b.slots id (omega (arith, low, a.next))) (a.slots id low);
  }

  -- what the last checkpoint had, a later one has
  pub committed_stays : (x y : Core G) → StateFollows x y → IsInside (committed_set y) (committed_set x)
  committed_stays x y follows p h =
      subst (λ b. (b || list_any (λ (q : ℕ). p == q) (take x.committed x.listed)) ≡ true) (sym (follows.opened p))
      (or_mono (opened y p) (list_any (λ (q : ℕ). p == q) (take y.committed y.listed)) (list_any (λ (q : ℕ). p == q) (take x.committed x.listed))
      (λ was. subst (λ (l : List ℕ). list_any (λ (q : ℕ). p == q) (take x.committed l) ≡ true) (sym follows.listed.1) (listed_later y.committed x.committed y.listed follows.listed.0 p follows.committed was)) h)
