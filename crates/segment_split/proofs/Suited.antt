-- The versions of halves suit the schema of the segment's parts.
use Rattle.std.proofs.Common.{◌≡◌, ℕ, List, [], ◌∷◌, ◌++◌, Ok}
use Rattle.std.specs.List.{AllByRecursion}
use Rattle.column_block.specs.declared.cell.Version.{Version}
use Rattle.column_block.specs.declared.column.Column.{Column}
use Rattle.column_block.specs.Suiting.{Suits}
use Rattle.column_block.proofs.Ordered.{each_left, each_right}
use Rattle.delta_layer.specs.Built.{AreTwo}
use Rattle.delta_layer.specs.Present.{IsPresent}
use Rattle.delta_layer.specs.Laws.{PiecesSuit, ViewSuits}
use Rattle.delta_layer.specs.declared.built.Built.{Built}
use Rattle.delta_layer.specs.declared.built.Piece.{Piece}
use Rattle.delta_layer.specs.declared.view.SegmentView.{SegmentView}
use Rattle.delta_layer.proofs.Attached.{present_suits}
use Rattle.segment_split.specs.Halves.{GivesSplit}

module _ {G : Type 0} (bytes : G → List ℕ) (columns : List Column) where
  pub split_suits : (old : SegmentView G) (built : Built G) → ViewSuits columns old → GivesSplit bytes old (Ok built) → PiecesSuit columns built.pieces
  split_suits old built suits gives = by built.pieces gives
    where
      by : (pieces : List Piece) → AreTwo (λ (l u : Piece). IsPresent bytes old.range old.stable old.delta (l.versions ++ u.versions)) pieces → PiecesSuit columns pieces
      by [] c = absurd c
      by (x ∷ []) c = absurd c
      by (x ∷ y ∷ z ∷ more) c = absurd c
      by (l ∷ u ∷ []) c = (let all = present_suits bytes columns old (l.versions ++ u.versions) suits c in (each_left (Suits columns) l.versions u.versions all, (each_right (Suits columns) l.versions u.versions all, tt)))
