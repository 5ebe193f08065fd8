-- The entries of a map whose handles lie in a range.
use Rattle.std.proofs.Common.{◌≡◌, ◌∙◌, refl, sym, ap, ℕ, zero, suc, ℤ, Bool, true, false, not, ◌&&◌, List, [], ◌∷◌, Some, None, filter, find, cond, int_le, int_lt, arith, nat_le}
use Rattle.std.proofs.lemmas.Int.{ints, int_max_is}
use Rattle.std.specs.BTreeMap.Range.{entries_between, entries_below, entries_from}
use Rattle.std.specs.declared.ops.Bound.TheVariants.{Included, Excluded, Unbounded}
use Rattle.std.specs.Ordering.{int_cmp, nat_cmp, is_le, is_gt, ordering_then}
use Rattle.std.specs.declared.cmp.Ordering.TheVariants.{Less, Equal, Greater}
use Rattle.std.specs.Int.{int_max}
use Rattle.flash_types.specs.Ranges.{holds, is_below}
use Rattle.flash_types.specs.declared.range.HandleRange.{HandleRange}
use Rattle.committed_log.specs.Replies.{first_lock, may_commit}
use Rattle.committed_log.specs.declared.store.Lock.{Lock}
use Rattle.committed_log.specs.Store.{value_cmp}
use Rattle.region_state.specs.Blocking.{blocks_at}

pub filter_alike : {X : Type 0} (p q : X → Bool) → ((x : X) → p x ≡ q x) → (xs : List X) → filter p xs ≡ filter q xs
filter_alike p q same xs = λ i. filter (λ x. same x i) xs

le_is : (a q : ℤ) → is_le (int_cmp a q) ≡ int_le a q
le_is a q = grind (arith, ints)

no_end : (b c : Bool) → b ≡ c → (b && not false) ≡ (c && true)
no_end b c e = ap (λ x. x && true) e

pub from_low : {X : Type 0} (locks : List (ℤ × X)) (l : ℤ) (range : HandleRange) → l ≡ range.low → range.high ≡ None → entries_between int_cmp (Included l) Unbounded locks ≡ filter (λ (e : ℤ × X). holds range e.0) locks
from_low {X} locks l range same open_end = filter_alike (λ (e : ℤ × X). is_le (int_cmp l e.0) && not false) (λ (e : ℤ × X). holds range e.0) (λ e. at e.0) locks
  where
    at : (q : ℤ) → (is_le (int_cmp l q) && not false) ≡ (int_le range.low q && is_below q range.high)
    at q = no_end _ _ (le_is l q ∙ ap (λ a. int_le a q) same) ∙ ap (λ high. int_le range.low q && is_below q high) (sym open_end)

ends : (low high q : ℤ) → (is_le (int_cmp low q) && not (is_le (int_cmp (int_max high low) q))) ≡ (int_le low q && int_lt q high)
ends low high q = let e = int_max_is high low in grind (arith, ints, e)

pub up_to_high : {X : Type 0} (locks : List (ℤ × X)) (l m high : ℤ) (range : HandleRange) → l ≡ range.low → range.high ≡ Some high → m ≡ int_max high range.low → entries_between int_cmp (Included l) (Excluded m) locks ≡ filter (λ (e : ℤ × X). holds range e.0) locks
up_to_high {X} locks l m high range same is most = filter_alike (λ (e : ℤ × X). is_le (int_cmp l e.0) && not (is_le (int_cmp m e.0))) (λ (e : ℤ × X). holds range e.0) (λ e. at e.0) locks
  where
    at : (q : ℤ) → (is_le (int_cmp l q) && not (is_le (int_cmp m q))) ≡ (int_le range.low q && is_below q range.high)
    at q = (λ i. is_le (int_cmp (same i) q) && not (is_le (int_cmp (most i) q))) ∙ ends range.low high q ∙ ap (λ x. int_le range.low q && is_below q x) (sym is)

-- a search in a part
pub find_within : {X : Type 0} (p q : X → Bool) (xs : List X) → find q (filter p xs) ≡ find (λ x. p x && q x) xs
find_within p q [] = refl
find_within {X} p q (x ∷ xs) = elim (p x) as (λ b. find q (cond b (x ∷ filter p xs) (filter p xs)) ≡ cond (b && q x) (Some x) (find (λ x. p x && q x) xs)) [
  | true ↦ ap (cond (q x) (Some x)) (find_within p q xs)
  | false ↦ find_within p q xs
]

pub find_here : {X : Type 0} (q : X → Bool) (xs rest : List X) (x : X) → xs ≡ x ∷ rest → q x ≡ true → find q xs ≡ Some x
find_here q xs rest x is yes_q = ap (find q) is ∙ ap (λ b. cond b (Some x) (find q rest)) yes_q

pub find_next : {X : Type 0} (q : X → Bool) (xs rest : List X) (x : X) → xs ≡ x ∷ rest → q x ≡ false → find q xs ≡ find q rest
find_next q xs rest x is no_q = ap (find q) is ∙ ap (λ b. cond b (Some x) (find q rest)) no_q

pub find_nothing : {X : Type 0} (q : X → Bool) (xs : List X) → xs ≡ [] → find q xs ≡ None
find_nothing q xs is = ap (find q) is

and_assoc : (a b c : Bool) → (a && b && c) ≡ (a && (b && c))
and_assoc true b c = refl
and_assoc false b c = refl

-- the first lock of a range is the first of the range's that is in the way
pub first_of_part : (locks : List (ℤ × Lock)) (range : HandleRange) (ts : ℕ) → first_lock locks range ts ≡ find (λ (e : ℤ × Lock). blocks_at ts e.1) (filter (λ (e : ℤ × Lock). holds range e.0) locks)
first_of_part locks range ts =
    (λ i. find (λ (e : ℤ × Lock). and_assoc (holds range e.0) (may_commit e.1.kind) (nat_le e.1.start ts) i) locks)
    ∙ sym (find_within (λ (e : ℤ × Lock). holds range e.0) (λ (e : ℤ × Lock). blocks_at ts e.1) locks)

-- ---- the handles below one, and the others

gt_is : (a h : ℤ) → is_gt (int_cmp a h) ≡ int_lt h a
gt_is a h = grind (arith, ints)

not_le_is : (a h : ℤ) → (true && not (is_le (int_cmp a h))) ≡ int_lt h a
not_le_is a h = grind (arith, ints)

and_true : (b : Bool) → (b && not false) ≡ b
and_true true = refl
and_true false = refl

-- no handle is on both sides of one, and each is on one
pub not_below : (at h : ℤ) → not (int_lt h at) ≡ int_le at h
not_below at h = grind (arith, ints)

pub not_from : (at h : ℤ) → not (int_le at h) ≡ int_lt h at
not_from at h = grind (arith, ints)

zero_gt : (s : ℕ) → is_gt (nat_cmp 0 s) ≡ false
zero_gt zero = refl
zero_gt (suc s) = grind arith

zero_le : (s : ℕ) → is_le (nat_cmp 0 s) ≡ true
zero_le zero = refl
zero_le (suc s) = grind arith

pair_gt : (a h : ℤ) (s : ℕ) → is_gt (value_cmp (a, 0) (h, s)) ≡ int_lt h a
pair_gt a h s = elim (int_cmp a h) as (λ o. int_cmp a h ≡ o → is_gt (ordering_then o (nat_cmp 0 s)) ≡ int_lt h a) [
  | Less ↦ λ is. ap is_gt (sym is) ∙ gt_is a h
  | Equal ↦ λ is. zero_gt s ∙ (ap is_gt (sym is) ∙ gt_is a h)
  | Greater ↦ λ is. ap is_gt (sym is) ∙ gt_is a h
] refl

pair_le : (a h : ℤ) (s : ℕ) → is_le (value_cmp (a, 0) (h, s)) ≡ int_le a h
pair_le a h s = elim (int_cmp a h) as (λ o. int_cmp a h ≡ o → is_le (ordering_then o (nat_cmp 0 s)) ≡ int_le a h) [
  | Less ↦ λ is. ap is_le (sym is) ∙ le_is a h
  | Equal ↦ λ is. zero_le s ∙ (ap is_le (sym is) ∙ le_is a h)
  | Greater ↦ λ is. ap is_le (sym is) ∙ le_is a h
] refl

module _ (a at : ℤ) (same : a ≡ at) where
  pub values_below : {X : Type 0} (values : List ((ℤ × ℕ) × X)) → entries_below (value_cmp (a, 0)) values ≡ filter (λ (e : (ℤ × ℕ) × X). int_lt e.0.0 at) values
  values_below {X} values = filter_alike (λ (e : (ℤ × ℕ) × X). is_gt (value_cmp (a, 0) e.0)) (λ (e : (ℤ × ℕ) × X). int_lt e.0.0 at) (λ e. pair_gt a e.0.0 e.0.1 ∙ ap (int_lt e.0.0) same) values

  pub values_from : {X : Type 0} (values : List ((ℤ × ℕ) × X)) → entries_from (value_cmp (a, 0)) values ≡ filter (λ (e : (ℤ × ℕ) × X). int_le at e.0.0) values
  values_from {X} values = filter_alike (λ (e : (ℤ × ℕ) × X). is_le (value_cmp (a, 0) e.0)) (λ (e : (ℤ × ℕ) × X). int_le at e.0.0) (λ e. pair_le a e.0.0 e.0.1 ∙ ap (λ x. int_le x e.0.0) same) values

  pub locks_below : {X : Type 0} (locks : List (ℤ × X)) → entries_between int_cmp Unbounded (Excluded a) locks ≡ filter (λ (e : ℤ × X). int_lt e.0 at) locks
  locks_below {X} locks = filter_alike (λ (e : ℤ × X). true && not (is_le (int_cmp a e.0))) (λ (e : ℤ × X). int_lt e.0 at) (λ e. not_le_is a e.0 ∙ ap (int_lt e.0) same) locks

  pub locks_from : {X : Type 0} (locks : List (ℤ × X)) → entries_between int_cmp (Included a) Unbounded locks ≡ filter (λ (e : ℤ × X). int_le at e.0) locks
  locks_from {X} locks = filter_alike (λ (e : ℤ × X). is_le (int_cmp a e.0) && not false) (λ (e : ℤ × X). int_le at e.0) (λ e. and_true _ ∙ le_is a e.0 ∙ ap (λ x. int_le x e.0) same) locks
