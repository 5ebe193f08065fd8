-- Entries that are put into a list in the order of their keys.
use Rattle.std.proofs.Common.{◌≡◌, ◌∙◌, refl, sym, ap, ℕ, ℤ, List, [], ◌∷◌, fold}
use Rattle.std.specs.declared.cmp.Ordering.{Ordering}
use Rattle.std.specs.declared.cmp.Ordering.TheVariants.{Less, Equal, Greater}
use Rattle.std.specs.Ordering.{match_ordering, ordering_reverse}
use Rattle.std.specs.List.Sorted.{IsStrictlySortedBy}
use Rattle.delta_index.specs.Chunks.{AreAbove}
use Rattle.delta_index.specs.Indexes.{Entry, put, AreRising}
use Rattle.column_block.specs.Order.{key_cmp}
pub use Rattle.column_block.proofs.Ordered.{key_cmp_total}

abbrev pub put_all : List Entry → List Entry → List Entry
put_all es fs = fold put es fs

-- ---- one comparison told

pub turned : (k l : ℤ × ℕ) (r : Ordering) → key_cmp k l ≡ r → key_cmp l k ≡ ordering_reverse r
turned k l r is = key_cmp_total.antisymm l k ∙ ap ordering_reverse is

pub put_by : (e f : Entry) (es : List Entry) (r : Ordering) → key_cmp f.0 e.0 ≡ r → put (e ∷ es) f ≡ match_ordering r (f ∷ e ∷ es) ((e.0, f.1) ∷ es) (e ∷ put es f)
put_by e f es r is = ap (λ s. match_ordering s (f ∷ e ∷ es) ((e.0, f.1) ∷ es) (e ∷ put es f)) is

pub above_more : (k l : ℤ × ℕ) (es : List Entry) → key_cmp k l ≡ Less → AreAbove l es → AreAbove k es
above_more k l [] less a = tt
above_more k l (e ∷ es) less a = (key_cmp_total.trans k l e.0 less a.0, above_more k l es less a.1)

above_same : (k l : ℤ × ℕ) (es : List Entry) → key_cmp k l ≡ Equal → AreAbove l es → AreAbove k es
above_same k l [] same a = tt
above_same k l (e ∷ es) same a = (key_cmp_total.congr k l e.0 same ∙ a.0, above_same k l es same a.1)

-- ---- two lists merged

-- the first entry stays the first where all others are above it
pub head_stays : (e : Entry) (es fs : List Entry) → AreAbove e.0 fs → put_all (e ∷ es) fs ≡ e ∷ put_all es fs
head_stays e es [] a = refl
head_stays e es (f ∷ fs) a = ap (λ s. put_all s fs) (put_by e f es Greater (turned e.0 f.0 Less a.0)) ∙ head_stays e (put es f) fs a.1

pub merge_keeps : (x y : Entry) (xs ys : List Entry) → AreRising (y ∷ ys) → key_cmp x.0 y.0 ≡ Less → put_all (x ∷ xs) (y ∷ ys) ≡ x ∷ put_all xs (y ∷ ys)
unfolding IsStrictlySortedBy
merge_keeps x y xs ys up less = head_stays x xs (y ∷ ys) (less, above_more x.0 y.0 ys less up.0)

pub merge_adds : (x y : Entry) (xs ys : List Entry) → AreRising (y ∷ ys) → key_cmp x.0 y.0 ≡ Greater → put_all (x ∷ xs) (y ∷ ys) ≡ y ∷ put_all (x ∷ xs) ys
unfolding IsStrictlySortedBy
merge_adds x y xs ys up more = ap (λ s. put_all s ys) (put_by x y xs Less (turned x.0 y.0 Greater more)) ∙ head_stays y (x ∷ xs) ys up.0

pub merge_replaces : (x y : Entry) (xs ys : List Entry) → AreRising (y ∷ ys) → key_cmp x.0 y.0 ≡ Equal → put_all (x ∷ xs) (y ∷ ys) ≡ (x.0, y.1) ∷ put_all xs ys
unfolding IsStrictlySortedBy
merge_replaces x y xs ys up same = ap (λ s. put_all s ys) (put_by x y xs Equal (turned x.0 y.0 Equal same)) ∙ head_stays (x.0, y.1) xs ys (above_same x.0 y.0 ys same up.0)

pub rising_stays : (ys : List Entry) → AreRising ys → put_all [] ys ≡ ys
unfolding IsStrictlySortedBy
rising_stays [] up = refl
rising_stays (y ∷ ys) up = head_stays y [] ys up.0 ∙ ap (λ rest. y ∷ rest) (rising_stays ys up.1)

pub rising_tail : (y : Entry) (ys : List Entry) → AreRising (y ∷ ys) → AreRising ys
unfolding IsStrictlySortedBy
rising_tail y ys up = up.1

-- ---- the order stays

above_put : (l : ℤ × ℕ) (f : Entry) (es : List Entry) → key_cmp l f.0 ≡ Less → AreAbove l es → AreAbove l (put es f)
above_put l f [] less a = (less, tt)
above_put l f (e ∷ es) less a =
    elim (key_cmp f.0 e.0) as (λ r. AreAbove l (match_ordering r (f ∷ e ∷ es) ((e.0, f.1) ∷ es) (e ∷ put es f))) [
      | Less ↦ (less, a)
      | Equal ↦ a
      | Greater ↦ (a.0, above_put l f es less a.1)
    ]

pub rising_put : (es : List Entry) (f : Entry) → AreRising es → AreRising (put es f)
unfolding IsStrictlySortedBy
rising_put [] f up = (tt, tt)
rising_put (e ∷ es) f up =
    elim (key_cmp f.0 e.0) as (λ r. key_cmp f.0 e.0 ≡ r → AreRising (match_ordering r (f ∷ e ∷ es) ((e.0, f.1) ∷ es) (e ∷ put es f))) [
      | Less ↦ λ is. ((is, above_more f.0 e.0 es is up.0), up)
      | Equal ↦ λ is. up
      | Greater ↦ λ is. (above_put e.0 f es (turned f.0 e.0 Greater is) up.0, rising_put es f up.1)
    ] refl

pub rising_all : (es fs : List Entry) → AreRising es → AreRising (put_all es fs)
rising_all es [] up = up
rising_all es (f ∷ fs) up = rising_all (put es f) fs (rising_put es f up)

pub rising_none : AreRising []
unfolding IsStrictlySortedBy
rising_none = tt

-- ---- a file's own entries first

less_or_equal : {P : Type 0} (r : Ordering) → r ≡ Less → r ≡ Equal → P
less_or_equal r p q = absurd (cc (p, q))

less_or_greater : {P : Type 0} (r : Ordering) → r ≡ Less → r ≡ Greater → P
less_or_greater r p q = absurd (cc (p, q))

module _ (k l : Entry) (less : key_cmp k.0 l.0 ≡ Less) where
  more : key_cmp l.0 k.0 ≡ Greater
  more = turned k.0 l.0 Less less

  -- two entries with different keys may be put in either order
  pub commute : (es : List Entry) → put (put es k) l ≡ put (put es l) k
  commute [] = put_by k l [] Greater more ∙ sym (put_by l k [] Less less)
  commute (e ∷ es) = by (key_cmp k.0 e.0) (key_cmp l.0 e.0) refl refl (commute es)
    where
      by : (r s : Ordering) → key_cmp k.0 e.0 ≡ r → key_cmp l.0 e.0 ≡ s → put (put es k) l ≡ put (put es l) k → put (put (e ∷ es) k) l ≡ put (put (e ∷ es) l) k
      by Less Less a b ih = ap (λ t. put t l) (put_by e k es Less a) ∙ put_by k l (e ∷ es) Greater more ∙ ap (λ t. k ∷ t) (put_by e l es Less b) ∙ sym (ap (λ t. put t k) (put_by e l es Less b) ∙ put_by l k (e ∷ es) Less less)
      by Less Equal a b ih = ap (λ t. put t l) (put_by e k es Less a) ∙ put_by k l (e ∷ es) Greater more ∙ ap (λ t. k ∷ t) (put_by e l es Equal b) ∙ sym (ap (λ t. put t k) (put_by e l es Equal b) ∙ put_by (e.0, l.1) k es Less a)
      by Less Greater a b ih = ap (λ t. put t l) (put_by e k es Less a) ∙ put_by k l (e ∷ es) Greater more ∙ ap (λ t. k ∷ t) (put_by e l es Greater b) ∙ sym (ap (λ t. put t k) (put_by e l es Greater b) ∙ put_by e k (put es l) Less a)
      by Equal Less a b ih = less_or_greater (key_cmp e.0 l.0) (sym (key_cmp_total.congr k.0 e.0 l.0 a) ∙ less) (turned l.0 e.0 Less b)
      by Equal Equal a b ih = less_or_equal (key_cmp e.0 l.0) (sym (key_cmp_total.congr k.0 e.0 l.0 a) ∙ less) (turned l.0 e.0 Equal b)
      by Equal Greater a b ih = ap (λ t. put t l) (put_by e k es Equal a) ∙ put_by (e.0, k.1) l es Greater b ∙ sym (ap (λ t. put t k) (put_by e l es Greater b) ∙ put_by e k (put es l) Equal a)
      by Greater Less a b ih = less_or_greater (key_cmp k.0 e.0) (key_cmp_total.trans k.0 l.0 e.0 less b) a
      by Greater Equal a b ih = less_or_greater (key_cmp l.0 k.0) (key_cmp_total.congr l.0 e.0 k.0 b ∙ turned k.0 e.0 Greater a) more
      by Greater Greater a b ih = ap (λ t. put t l) (put_by e k es Greater a) ∙ put_by e l (put es k) Greater b ∙ ap (λ t. e ∷ t) ih ∙ sym (ap (λ t. put t k) (put_by e l es Greater b) ∙ put_by e k (put es l) Greater a)

-- one that is below all others may be put before them or after
below_all : (es : List Entry) (k : Entry) (fs : List Entry) → AreAbove k.0 fs → put_all (put es k) fs ≡ put (put_all es fs) k
below_all es k [] a = refl
below_all es k (f ∷ fs) a = ap (λ t. put_all t fs) (commute k f a.0 es) ∙ below_all (put es f) k fs a.1

-- the later of two with one key
same_twice : (a k : Entry) → key_cmp k.0 a.0 ≡ Equal → (es : List Entry) → put (put es a) k ≡ put es (a.0, k.1)
same_twice a k same [] = put_by a k [] Equal same
same_twice a k same (e ∷ es) = by (key_cmp a.0 e.0) refl (same_twice a k same es)
  where
    by : (r : Ordering) → key_cmp a.0 e.0 ≡ r → put (put es a) k ≡ put es (a.0, k.1) → put (put (e ∷ es) a) k ≡ put (e ∷ es) (a.0, k.1)
    by Less b ih = ap (λ t. put t k) (put_by e a es Less b) ∙ put_by a k (e ∷ es) Equal same ∙ sym (put_by e (a.0, k.1) es Less b)
    by Equal b ih = ap (λ t. put t k) (put_by e a es Equal b) ∙ put_by (e.0, a.1) k es Equal (key_cmp_total.congr k.0 a.0 e.0 same ∙ b) ∙ sym (put_by e (a.0, k.1) es Equal b)
    by Greater b ih = ap (λ t. put t k) (put_by e a es Greater b) ∙ put_by e k (put es a) Greater (key_cmp_total.congr k.0 a.0 e.0 same ∙ b) ∙ ap (λ t. e ∷ t) ih ∙ sym (put_by e (a.0, k.1) es Greater b)

put_last : (es bs : List Entry) (k : Entry) → AreRising bs → put_all es (put bs k) ≡ put (put_all es bs) k
unfolding IsStrictlySortedBy
put_last es [] k up = refl
put_last es (a ∷ bs) k up =
    elim (key_cmp k.0 a.0) as (λ r. key_cmp k.0 a.0 ≡ r → put_all es (match_ordering r (k ∷ a ∷ bs) ((a.0, k.1) ∷ bs) (a ∷ put bs k)) ≡ put (put_all es (a ∷ bs)) k) [
      | Less ↦ λ b. below_all es k (a ∷ bs) (b, above_more k.0 a.0 bs b up.0)
      | Equal ↦ λ b. ap (λ t. put_all t bs) (sym (same_twice a k b es)) ∙ below_all (put es a) k bs (above_same k.0 a.0 bs b up.0)
      | Greater ↦ λ b. put_last (put es a) bs k up.1
    ] refl

own_first_from : (es bs fs : List Entry) → AreRising bs → put_all es (put_all bs fs) ≡ put_all (put_all es bs) fs
own_first_from es bs [] up = refl
own_first_from es bs (f ∷ fs) up = own_first_from es (put bs f) fs (rising_put bs f up) ∙ ap (λ t. put_all t fs) (put_last es bs f up)

-- a file's entries, brought into order by themselves, are put as one by one
pub own_first : (es fs : List Entry) → put_all es (put_all [] fs) ≡ put_all es fs
own_first es fs = own_first_from es [] fs rising_none
