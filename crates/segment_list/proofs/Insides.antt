-- Ranges that lie inside others.
use Rattle.std.proofs.Common.{◌≡◌, ◌∙◌, refl, sym, ap, ℤ, Bool, true, false, true≢false, cond, ◌&&◌, int_le, int_lt, Option, Some, None, arith}
use Rattle.std.proofs.lemmas.Bool.{false≢true}
use Rattle.std.proofs.lemmas.Int.{ints}
use Rattle.column_block.specs.Handles.{lies_in}
use Rattle.column_block.specs.declared.cell.Version.{Version}
use Rattle.flash_types.specs.Ranges.{common, has_any, holds, is_below, lower_end}
use Rattle.flash_types.specs.declared.range.HandleRange.{HandleRange}

-- whether an end is at another one or below it
abbrev pub ends_by : Option ℤ → Option ℤ → Bool
ends_by a None = true
ends_by None (Some b) = false
ends_by (Some a) (Some b) = int_le a b

pub record Inside (low : ℤ) (high : Option ℤ) (inner : HandleRange) : Type 0 where
  pub begins : int_le low inner.low ≡ true
  pub ends : ends_by inner.high high ≡ true

pub le_itself : (a : ℤ) → int_le a a ≡ true
le_itself a = grind (arith, ints)

pub le_trans : (a b c : ℤ) → int_le a b ≡ true → int_le b c ≡ true → int_le a c ≡ true
le_trans a b c p q = grind (arith, ints)

pub lt_le : (a b : ℤ) → int_lt a b ≡ true → int_le a b ≡ true
lt_le a b p = grind (arith, ints)

lt_up : (a b c : ℤ) → int_lt a b ≡ true → int_le b c ≡ true → int_lt a c ≡ true
lt_up a b c p q = grind (arith, ints)

lt_down : (a b c : ℤ) → int_le a b ≡ true → int_lt b c ≡ true → int_lt a c ≡ true
lt_down a b c p q = grind (arith, ints)

pub not_le : (a b : ℤ) → int_le a b ≡ false → int_lt b a ≡ true
not_le a b e = grind (arith, ints)

pub not_lt : (a b : ℤ) → int_lt a b ≡ false → int_le b a ≡ true
not_lt a b e = grind (arith, ints)

pub both_true : (a b : Bool) → (a && b) ≡ true → (a ≡ true) × (b ≡ true)
both_true true b e = (refl, e)
both_true false b e = absurd (true≢false (sym e))

pub ends_itself : (a : Option ℤ) → ends_by a a ≡ true
ends_itself None = refl
ends_itself (Some a) = le_itself a

pub below_up : (h : ℤ) (a b : Option ℤ) → ends_by a b ≡ true → is_below h a ≡ true → is_below h b ≡ true
below_up h a None e p = refl
below_up h None (Some b) e p = absurd (true≢false (sym e))
below_up h (Some a) (Some b) e p = lt_up h a b p e

pub below_down : (g h : ℤ) (a : Option ℤ) → int_le g h ≡ true → is_below h a ≡ true → is_below g a ≡ true
below_down g h None e p = refl
below_down g h (Some a) e p = lt_down g h a e p

-- a range that isn't empty, and what follows it below an end, end below that end
pub ends_through : (low : ℤ) (a b : Option ℤ) → is_below low a ≡ true → ends_by a b ≡ true → ends_by (Some low) b ≡ true
ends_through low a None p e = refl
ends_through low None (Some b) p e = absurd (true≢false (sym e))
ends_through low (Some a) (Some b) p e = lt_le low b (lt_up low a b p e)

pub inside_lies : (low : ℤ) (high : Option ℤ) (inner : HandleRange) (v : Version) → Inside low high inner → lies_in inner.low inner.high v ≡ true → lies_in low high v ≡ true
inside_lies low high inner v inside lies =
    let both = both_true (int_le inner.low v.handle) (is_below v.handle inner.high) lies in
    ap (λ (x : Bool). x && is_below v.handle high) (le_trans low inner.low v.handle inside.begins both.0) ∙ below_up v.handle inner.high high inside.ends both.1

pub inside_holds : (low : ℤ) (high : Option ℤ) (inner : HandleRange) (h : ℤ) → Inside low high inner → holds inner h ≡ true → (int_le low h ≡ true) × (is_below h high ≡ true)
inside_holds low high inner h inside held =
    let both = both_true (int_le inner.low h) (is_below h inner.high) held in
    (le_trans low inner.low h inside.begins both.0, below_up h inner.high high inside.ends both.1)

greater : (a b c : ℤ) (s t : Bool) → int_le a c ≡ s → int_le b c ≡ t → int_le a b ≡ true → int_le (cond s c a) (cond t c b) ≡ true
greater a b c true true p q e = le_itself c
greater a b c true false p q e = lt_le c b (not_le b c q)
greater a b c false true p q e = absurd (false≢true (sym p ∙ le_trans a b c e q))
greater a b c false false p q e = e

lesser_up : (l x y z : ℤ) (s t : Bool) → int_le x y ≡ s → int_le z y ≡ t → int_le x z ≡ true → int_lt l (cond s x y) ≡ true → int_lt l (cond t z y) ≡ true
lesser_up l x y z true true p q e lt = lt_up l x z lt e
lesser_up l x y z true false p q e lt = lt_up l x y lt p
lesser_up l x y z false true p q e lt = absurd (false≢true (sym p ∙ le_trans x z y e q))
lesser_up l x y z false false p q e lt = lt

lesser_right : (l x y : ℤ) (s : Bool) → int_le x y ≡ s → int_lt l (cond s x y) ≡ true → int_lt l y ≡ true
lesser_right l x y true p lt = lt_up l x y lt p
lesser_right l x y false p lt = lt

lesser_end : (l : ℤ) (a b c : Option ℤ) → ends_by a b ≡ true → is_below l (lower_end a c) ≡ true → is_below l (lower_end b c) ≡ true
lesser_end l None None c e p = p
lesser_end l (Some x) None None e p = refl
lesser_end l (Some x) None (Some y) e p = lesser_right l x y (int_le x y) refl p
lesser_end l None (Some z) c e p = absurd (true≢false (sym e))
lesser_end l (Some x) (Some z) None e p = lt_up l x z p e
lesser_end l (Some x) (Some z) (Some y) e p = lesser_up l x y z (int_le x y) (int_le z y) refl refl e p

-- what meets a range meets those around it
pub inside_meets : (range : HandleRange) (inner other : HandleRange) → Inside range.low range.high inner → has_any (common inner other) ≡ true → has_any (common range other) ≡ true
inside_meets range inner other inside met =
    below_down (common range other).low (common inner other).low (lower_end range.high other.high)
    (greater range.low inner.low other.low (int_le range.low other.low) (int_le inner.low other.low) refl refl inside.begins)
    (lesser_end (common inner other).low inner.high range.high other.high inside.ends met)
