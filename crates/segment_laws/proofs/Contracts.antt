-- What the builds' contracts give to the laws of goodness.
use Rattle.std.proofs.Common.{◌≡◌, ◌∙◌, refl, sym, ap, subst, ℕ, ℤ, true, List, [], ◌∷◌, ◌++◌, int_le, Ok}
use Rattle.column_block.specs.declared.cell.Version.{Version}
use Rattle.column_block.specs.declared.column.Column.{Column}
use Rattle.flash_types.specs.Ranges.{is_below}
use Rattle.flash_types.specs.declared.range.HandleRange.{HandleRange}
use Rattle.good_replica.specs.Changed.{IsCollected, had, view}
use Rattle.delta_layer.specs.Built.{AreTwo, IsOne, IsSegment}
use Rattle.delta_layer.specs.Files.{files_of}
use Rattle.delta_layer.specs.Present.{IsPresent}
use Rattle.delta_layer.specs.Stable.{stable_in}
use Rattle.delta_layer.specs.declared.built.Built.{Built}
use Rattle.delta_layer.specs.declared.built.Piece.{Piece}
use Rattle.delta_layer.specs.declared.view.SegmentView.{SegmentView}
use Rattle.delta_merge.specs.Merged.{GivesDeltaMerge, IsCollection, IsDeltaMerge}
use Rattle.segment_split.specs.Halves.{GivesSplit, IsCut, IsSplit, lower, upper}
use Rattle.segment_merge.specs.Joined.{GivesMerge, IsMerge, IsTogether, Touch, joined}
use Rattle.prefix_laws.specs.Views.{EachOfOne, HasAllOf, IsParted, IsWithin}
use Rattle.segment_laws.specs.Given.{HasBoth, HasCollected, HasHalves}
use Rattle.segment_laws.proofs.Builds.{apart, both_true, first_in, high_has, left_has, low_has, merge_collects, present_over, right_has, second_in}

module _ {G : Type 0} (bytes : G → List ℕ) (columns : List Column) (rows : ℕ) (built : Built G) where
  pub delta_merge_gives : (safe : ℕ) (old : SegmentView G) (stable : List Version) → IsDeltaMerge columns rows safe old built → GivesDeltaMerge bytes safe old (Ok built) → stable_in bytes old.stable ≡ Ok stable → HasCollected safe old.range stable (files_of old.delta) built.pieces
  delta_merge_gives safe old stable is gives reads = by built.pieces is.piece gives
    where
      by : (pieces : List Piece) → IsOne (λ (piece : Piece). IsSegment columns rows old.range piece) pieces → IsOne (λ (piece : Piece). IsCollection bytes safe old piece.versions) pieces → HasCollected safe old.range stable (files_of old.delta) pieces
      by [] s c = absurd s
      by (x ∷ y ∷ more) s c = absurd s
      by (piece ∷ []) s c =
          let are = present_over bytes old.range old.stable old.delta c.present stable c.are reads in
          record {
            piece = piece;
            only = refl;
            range_is = s.range;
            collected = λ h held. subst (λ (vs : List Version). IsCollected safe (view h stable (files_of old.delta)) (had h vs)) (sym c.kept) (merge_collects old.range stable c.present (files_of old.delta) safe are h held);
          }

  pub split_gives : (at : ℤ) (old : SegmentView G) (stable : List Version) → IsCut old.range at → IsSplit columns rows at old built → GivesSplit bytes old (Ok built) → stable_in bytes old.stable ≡ Ok stable → HasHalves old.range stable (files_of old.delta) built.pieces
  split_gives at old stable cut is gives reads = by built.pieces is.pieces gives
    where
      by : (pieces : List Piece) → AreTwo (λ (l u : Piece). IsSegment columns rows (lower at old.range) l × IsSegment columns rows (upper at old.range) u) pieces → AreTwo (λ (l u : Piece). IsPresent bytes old.range old.stable old.delta (l.versions ++ u.versions)) pieces → HasHalves old.range stable (files_of old.delta) pieces
      by [] s c = absurd s
      by (x ∷ []) s c = absurd s
      by (x ∷ y ∷ z ∷ more) s c = absurd s
      by (l ∷ u ∷ []) s c =
          let are = present_over bytes old.range old.stable old.delta (l.versions ++ u.versions) stable c reads in
          record {
            low = l;
            high = u;
            only = refl;
            parted = subst (λ (r : HandleRange). IsParted old.range r u.range) (sym s.0.range) (subst (λ (r : HandleRange). IsParted old.range (lower at old.range) r) (sym s.1.range) (parts cut));
            low_inside = subst (λ (r : HandleRange). IsWithin r old.range) (sym s.0.range) (λ h held. first_in old.range.low at old.range.high cut.above (ended cut) h held);
            high_inside = subst (λ (r : HandleRange). IsWithin r old.range) (sym s.1.range) (λ h held. second_in old.range.low at old.range.high cut.above (ended cut) h held);
            low_has = subst (λ (r : HandleRange). HasAllOf r stable (files_of old.delta) l.versions) (sym s.0.range) (λ h ts held. low_has old.range at stable l.versions u.versions (files_of old.delta) cut.above cut.within are s.0.within s.1.within h ts held);
            high_has = subst (λ (r : HandleRange). HasAllOf r stable (files_of old.delta) u.versions) (sym s.1.range) (λ h ts held. high_has old.range at stable l.versions u.versions (files_of old.delta) cut.above cut.within are s.0.within s.1.within h ts held);
          }
        where
          ended : IsCut old.range at → is_below at old.range.high ≡ true
          ended cut = (both_true (int_le old.range.low at) (is_below at old.range.high) cut.within).1

          parts : IsCut old.range at → IsParted old.range (lower at old.range) (upper at old.range)
          parts cut = record { begins = refl; meets = refl; ends = refl; below = cut.above; above = ended cut }

  pub merge_gives : (left right : SegmentView G) (left_stable right_stable : List Version) → Touch left.range right.range → IsMerge columns rows left right built → GivesMerge bytes left right (Ok built) → stable_in bytes left.stable ≡ Ok left_stable → stable_in bytes right.stable ≡ Ok right_stable →
      HasBoth left.range right.range left_stable right_stable (files_of left.delta) (files_of right.delta) built.pieces
  merge_gives left right left_stable right_stable touch is gives reads_left reads_right = by built.pieces is.piece gives
    where
      by : (pieces : List Piece) → IsOne (λ (piece : Piece). IsSegment columns rows (joined left.range right.range) piece) pieces → IsOne (λ (piece : Piece). IsTogether bytes left right piece.versions) pieces →
          HasBoth left.range right.range left_stable right_stable (files_of left.delta) (files_of right.delta) pieces
      by [] s c = absurd s
      by (x ∷ y ∷ more) s c = absurd s
      by (piece ∷ []) s c =
          let left_are = present_over bytes left.range left.stable left.delta c.of_left left_stable c.left_are reads_left in
          let right_are = present_over bytes right.range right.stable right.delta c.of_right right_stable c.right_are reads_right in
          record {
            piece = piece;
            only = refl;
            begins = ap (λ (r : HandleRange). r.low) s.range;
            ends = ap (λ (r : HandleRange). r.high) s.range;
            one_of = subst (EachOfOne left.range right.range) (sym s.range) (λ h held. apart left.range right.range left_stable right_stable c.of_left c.of_right (files_of left.delta) (files_of right.delta) touch.left_filled touch.right_filled touch.seam left_are right_are h held);
            left_has = λ h ts held. ap (λ (vs : List Version). had h vs ts) c.together ∙ left_has left.range right.range left_stable right_stable c.of_left c.of_right (files_of left.delta) (files_of right.delta) touch.left_filled touch.right_filled touch.seam left_are right_are h ts held;
            right_has = λ h ts held. ap (λ (vs : List Version). had h vs ts) c.together ∙ right_has left.range right.range left_stable right_stable c.of_left c.of_right (files_of left.delta) (files_of right.delta) touch.left_filled touch.right_filled touch.seam left_are right_are h ts held;
          }
