-- The versions of a merge suit the schema of the parts of both segments.
use Rattle.std.proofs.Common.{◌≡◌, sym, subst, ℕ, List, [], ◌∷◌, ◌++◌, Ok}
use Rattle.std.specs.List.{AllByRecursion}
use Rattle.column_block.specs.declared.cell.Version.{Version}
use Rattle.column_block.specs.declared.column.Column.{Column}
use Rattle.column_block.specs.Suiting.{Suits}
use Rattle.column_block.proofs.Ordered.{each_both}
use Rattle.delta_layer.specs.Built.{IsOne}
use Rattle.delta_layer.specs.Laws.{PiecesSuit, ViewSuits}
use Rattle.delta_layer.specs.declared.built.Built.{Built}
use Rattle.delta_layer.specs.declared.built.Piece.{Piece}
use Rattle.delta_layer.specs.declared.view.SegmentView.{SegmentView}
use Rattle.delta_layer.proofs.Attached.{present_suits}
use Rattle.segment_merge.specs.Joined.{GivesMerge, IsTogether}

module _ {G : Type 0} (bytes : G → List ℕ) (columns : List Column) where
  pub merge_suits : (left right : SegmentView G) (built : Built G) → ViewSuits columns left → ViewSuits columns right → GivesMerge bytes left right (Ok built) → PiecesSuit columns built.pieces
  merge_suits left right built left_suits right_suits gives = by built.pieces gives
    where
      by : (pieces : List Piece) → IsOne (λ (piece : Piece). IsTogether bytes left right piece.versions) pieces → PiecesSuit columns pieces
      by [] c = absurd c
      by (x ∷ y ∷ more) c = absurd c
      by (piece ∷ []) c = (subst (AllByRecursion (Suits columns)) (sym c.together) (each_both (Suits columns) c.of_left c.of_right (present_suits bytes columns left c.of_left left_suits c.left_are) (present_suits bytes columns right c.of_right right_suits c.right_are)), tt)
