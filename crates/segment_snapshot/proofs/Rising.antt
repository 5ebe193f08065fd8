-- The views of the needed segments rise.
use Rattle.std.proofs.Common.{◌≡◌, ◌∙◌, refl, sym, ap, subst, ℕ, ◌<◌, ℤ, Bool, true, false, true≢false, int_le, int_lt, List, [], ◌∷◌, Option, Some, None, length, map, arith}
use Rattle.std.specs.List.{All, AllPairs}
use Rattle.std.proofs.lemmas.Int.{ints}
use Rattle.std.proofs.lemmas.List.Elements.{All-cons, All-nil}
use Rattle.std.proofs.lemmas.List.Kept.{AllPairs-cons}
use Rattle.flash_types.specs.declared.range.HandleRange.{HandleRange}
use Rattle.flash_types.specs.declared.refusal.Cut.{Cut}
use Rattle.flash_types.specs.Ranges.{is_below}
use Rattle.good_replica.specs.Good.{CoversFrom}
use Rattle.delta_layer.specs.declared.view.SegmentView.{SegmentView}
use Rattle.learner_read.specs.Pieces.{PiecesRise, ends_before}
use Rattle.segment_list.specs.Lists.{range_alone}
use Rattle.segment_list.specs.Slots.{Slotted, view_of}
use Rattle.segment_snapshot.specs.Views.{needed_views, needs_slot}
use Rattle.segment_snapshot.proofs.Needed.{passed_over, shared}

same_le : (a b c : ℤ) → a ≡ b → int_le c b ≡ true → int_le c a ≡ true
same_le a b c e f = ap (int_le c) e ∙ f

further : (a b c : ℤ) → int_le a b ≡ true → int_lt b c ≡ true → int_le a c ≡ true
further a b c e f = grind (arith, ints)

itself : (a : ℤ) → int_le a a ≡ true
itself a = grind (arith, ints)

module _ {G : Type 0} (clip : HandleRange) (cuts : List Cut) where
  abbrev Behind : HandleRange → SegmentView G → Type 0
  Behind range piece = ends_before range piece.range ≡ true

  -- the views of segments that begin where a range ends, or behind that
  behind : (range : HandleRange) (at : ℤ) → range.high ≡ Some at → (low : ℤ) (slots : List (Slotted G)) → CoversFrom low (map range_alone slots) → int_le at low ≡ true → All (Behind range) (needed_views clip cuts slots)
  behind range at ends low [] c le = All-nil (Behind range)
  behind range at ends low (s ∷ []) c le = by (needs_slot clip cuts s) refl
    where
      here : Behind range (view_of s)
      here = ap (λ (o : Option ℤ). elim o [ None ↦ false | Some high ↦ int_le high s.range.low ]) ends ∙ same_le s.range.low low at c.0 le

      by : (b : Bool) → needs_slot clip cuts s ≡ b → All (Behind range) (needed_views clip cuts (s ∷ []))
      by true e = subst (All (Behind range)) (sym (shared clip cuts s [] e)) (All-cons (Behind range) (view_of s) [] here (All-nil (Behind range)))
      by false e = subst (All (Behind range)) (sym (passed_over clip cuts s [] e)) (All-nil (Behind range))
  behind range at ends low (s ∷ t ∷ more) c le = by (needs_slot clip cuts s) refl (behind range at ends t.range.low (t ∷ more) c.3 (further at s.range.low t.range.low (same_le s.range.low low at c.0 le) (sym (ap (is_below s.range.low) c.1) ∙ c.2)))
    where
      here : Behind range (view_of s)
      here = ap (λ (o : Option ℤ). elim o [ None ↦ false | Some high ↦ int_le high s.range.low ]) ends ∙ same_le s.range.low low at c.0 le

      by : (b : Bool) → needs_slot clip cuts s ≡ b → All (Behind range) (needed_views clip cuts (t ∷ more)) → All (Behind range) (needed_views clip cuts (s ∷ t ∷ more))
      by true e rest = subst (All (Behind range)) (sym (shared clip cuts s (t ∷ more) e)) (All-cons (Behind range) (view_of s) (needed_views clip cuts (t ∷ more)) here rest)
      by false e rest = subst (All (Behind range)) (sym (passed_over clip cuts s (t ∷ more) e)) rest

  abbrev Before : SegmentView G → SegmentView G → Type 0
  Before a b = ends_before a.range b.range ≡ true

  no_pairs : AllPairs Before []
  no_pairs i j d less within = absurd (omega (arith, within))

  pub rise : (low : ℤ) (slots : List (Slotted G)) → CoversFrom low (map range_alone slots) → PiecesRise (needed_views clip cuts slots)
  rise low [] c = no_pairs
  rise low (s ∷ []) c = by (needs_slot clip cuts s) refl
    where
      by : (b : Bool) → needs_slot clip cuts s ≡ b → PiecesRise (needed_views clip cuts (s ∷ []))
      by true e = subst PiecesRise (sym (shared clip cuts s [] e)) (AllPairs-cons Before (view_of s) [] (All-nil (Before (view_of s))) no_pairs)
      by false e = subst PiecesRise (sym (passed_over clip cuts s [] e)) no_pairs
  rise low (s ∷ t ∷ more) c = by (needs_slot clip cuts s) refl (rise t.range.low (t ∷ more) c.3)
    where
      by : (b : Bool) → needs_slot clip cuts s ≡ b → PiecesRise (needed_views clip cuts (t ∷ more)) → PiecesRise (needed_views clip cuts (s ∷ t ∷ more))
      by true e rest = subst PiecesRise (sym (shared clip cuts s (t ∷ more) e)) (AllPairs-cons Before (view_of s) (needed_views clip cuts (t ∷ more)) (behind s.range t.range.low c.1 t.range.low (t ∷ more) c.3 (itself t.range.low)) rest)
      by false e rest = subst PiecesRise (sym (passed_over clip cuts s (t ∷ more) e)) rest
