-- The versions of two segments that touch, one list behind the other.
use Rattle.std.proofs.Common.{◌≡◌, ◌∙◌, ℕ, ℤ, List, [], ◌∷◌, ◌++◌, Bool, true, false, ◌&&◌, Option, Some, None, int_le, int_lt, refl, sym, ap, subst, true≢false, arith}
use Rattle.std.specs.List.{All}
use Rattle.std.specs.Ordering.{int_cmp, nat_cmp, ordering_then}
use Rattle.std.specs.declared.cmp.Ordering.TheVariants.{Less}
use Rattle.std.proofs.lemmas.Int.{ints}
use Rattle.std.proofs.lemmas.List.Elements.{All-cons, All-head, All-tail, All-nil}
use Rattle.std.proofs.lemmas.List.Kept.{AllPairs-cons}
use Rattle.column_block.specs.declared.cell.Version.{Version}
use Rattle.column_block.specs.declared.column.Column.{Column}
use Rattle.flash_types.specs.Ranges.{holds, is_below}
use Rattle.flash_types.specs.declared.range.HandleRange.{HandleRange}
use Rattle.column_block.specs.Order.{Rise}
use Rattle.version_gc.proofs.Collections.{Pair, first_of, rest_of}
use Rattle.delta_layer.specs.Built.{IsOne, IsSegment}
use Rattle.delta_layer.specs.Pieces.{IsStablePiece}
use Rattle.delta_layer.specs.Present.{AreWithin}
use Rattle.delta_layer.specs.declared.built.Piece.{Piece}
use Rattle.segment_merge.specs.Joined.{Touch, joined}

both : (a b : Bool) → (a && b) ≡ true → (a ≡ true) × (b ≡ true)
both true b e = (refl, e)
both false b e = absurd (true≢false (sym e))

less_end : (a b : ℤ) → int_lt a b ≡ true → int_le a b ≡ true
less_end a b e = grind (arith, ints)

below_or_from : (a b c : ℤ) → int_lt a b ≡ true → int_le b c ≡ true → int_le a c ≡ true
below_or_from a b c e f = grind (arith, ints)

less_from : (a b c : ℤ) → int_lt a b ≡ true → int_le b c ≡ true → int_cmp a c ≡ Less
less_from a b c e f = grind (arith, ints)

less_less : (a b c : ℤ) → int_lt a b ≡ true → int_lt b c ≡ true → int_lt a c ≡ true
less_less a b c e f = grind (arith, ints)

module _ (left right : HandleRange) (touch : Touch left right) where
  -- the seam is above the first range's low end
  low_seam : int_lt left.low right.low ≡ true
  low_seam = ap (is_below left.low) (sym touch.seam) ∙ touch.left_filled

  under : (h : ℤ) → holds left h ≡ true → int_lt h right.low ≡ true
  under h e = ap (is_below h) (sym touch.seam) ∙ (both (int_le left.low h) (is_below h left.high) e).1

  under_end : (h : ℤ) (high : Option ℤ) → int_lt h right.low ≡ true → is_below right.low high ≡ true → is_below h high ≡ true
  under_end h None less filled = refl
  under_end h (Some end) less filled = less_less h right.low end less filled

  left_in : (h : ℤ) → holds left h ≡ true → holds (joined left right) h ≡ true
  left_in h e = (λ i. (both (int_le left.low h) (is_below h left.high) e).0 i && under_end h right.high (under h e) touch.right_filled i)

  right_in : (h : ℤ) → holds right h ≡ true → holds (joined left right) h ≡ true
  right_in h e = (λ i. below_or_from left.low right.low h low_seam (both (int_le right.low h) (is_below h right.high) e).0 i && (both (int_le right.low h) (is_below h right.high) e).1 i)

  rights_in : (vs : List Version) → AreWithin right vs → AreWithin (joined left right) vs
  rights_in [] within = tt
  rights_in (v ∷ vs) within = (right_in v.handle within.0, rights_in vs within.1)

  pub all_in : (us vs : List Version) → AreWithin left us → AreWithin right vs → AreWithin (joined left right) (us ++ vs)
  all_in [] vs some others = rights_in vs others
  all_in (u ∷ us) vs some others = (left_in u.handle some.0, all_in us vs some.1 others)

  -- a version of the first range stands before one of the second
  before : (u v : Version) → holds left u.handle ≡ true → holds right v.handle ≡ true → Pair u v
  before u v a b = ap (λ o. ordering_then o (nat_cmp u.ts v.ts)) (less_from u.handle right.low v.handle (under u.handle a) (both (int_le right.low v.handle) (is_below v.handle right.high) b).0)

  all_before : (u : Version) (vs : List Version) → holds left u.handle ≡ true → AreWithin right vs → All (Pair u) vs
  all_before u [] a within = All-nil (Pair u)
  all_before u (v ∷ vs) a within = All-cons (Pair u) v vs (before u v a within.0) (all_before u vs a within.1)

  before_all : (u : Version) (us vs : List Version) → holds left u.handle ≡ true → All (Pair u) us → AreWithin right vs → All (Pair u) (us ++ vs)
  before_all u [] vs a all within = all_before u vs a within
  before_all u (w ∷ us) vs a all within = All-cons (Pair u) w (us ++ vs) (All-head (Pair u) w us all) (before_all u us vs a (All-tail (Pair u) w us all) within)

  pub all_rise : (us vs : List Version) → Rise us → Rise vs → AreWithin left us → AreWithin right vs → Rise (us ++ vs)
  all_rise [] vs some others left_within right_within = others
  all_rise (u ∷ us) vs some others left_within right_within =
      AllPairs-cons Pair u (us ++ vs) (before_all u us vs left_within.0 (first_of Pair u us some) right_within) (all_rise us vs (rest_of Pair u us some) others left_within.1 right_within)

pub is_segment : (columns : List Column) (rows : ℕ) (left right : HandleRange) (us vs versions : List Version) (piece : Piece) (pieces : List Piece) → Touch left right → versions ≡ us ++ vs → Rise us → Rise vs → AreWithin left us → AreWithin right vs
    → piece.range ≡ joined left right → piece.versions ≡ versions → IsStablePiece columns rows versions piece.bytes → pieces ≡ piece ∷ [] → IsOne (λ (one : Piece). IsSegment columns rows (joined left right) one) pieces
is_segment columns rows left right us vs versions piece pieces touch is some others left_within right_within has_range has bytes are =
    let segment : IsSegment columns rows (joined left right) piece = record {
      range = has_range;
      rise = subst Rise (sym (has ∙ is)) (all_rise left right touch us vs some others left_within right_within);
      within = subst (AreWithin (joined left right)) (sym (has ∙ is)) (all_in left right touch us vs left_within right_within);
      bytes = subst (λ (all : List Version). IsStablePiece columns rows all piece.bytes) (sym has) bytes;
    } in
    subst (IsOne (λ (one : Piece). IsSegment columns rows (joined left right) one)) (sym are) segment

pub rises : (left right : HandleRange) (us vs versions : List Version) → Touch left right → versions ≡ us ++ vs → Rise us → Rise vs → AreWithin left us → AreWithin right vs → Rise versions
rises left right us vs versions touch is some others left_within right_within = subst Rise (sym is) (all_rise left right touch us vs some others left_within right_within)
