-- The versions of a delta merge suit the schema of the segment's parts.
use Rattle.std.proofs.Common.{◌≡◌, sym, subst, ℕ, Bool, true, false, cond, List, [], ◌∷◌, ◌++◌, Ok}
use Rattle.std.specs.List.{AllByRecursion}
use Rattle.column_block.specs.declared.cell.Version.{Version}
use Rattle.column_block.specs.declared.column.Column.{Column}
use Rattle.column_block.specs.Suiting.{Suits}
use Rattle.version_gc.specs.Keep.{is_kept, keep}
use Rattle.delta_layer.specs.Built.{IsOne}
use Rattle.delta_layer.specs.Laws.{PiecesSuit, ViewSuits}
use Rattle.delta_layer.specs.declared.built.Built.{Built}
use Rattle.delta_layer.specs.declared.built.Piece.{Piece}
use Rattle.delta_layer.specs.declared.view.SegmentView.{SegmentView}
use Rattle.delta_layer.proofs.Attached.{present_suits}
use Rattle.delta_merge.specs.Merged.{GivesDeltaMerge, IsCollection}

module _ (P : Version → Type 0) (safe : ℕ) where
  kept_all : (vs : List Version) → AllByRecursion P vs → AllByRecursion P (keep safe vs)
  kept_all [] all = tt
  kept_all (v ∷ vs) all = by (is_kept safe v vs) (kept_all vs all.1)
    where
      by : (b : Bool) → AllByRecursion P (keep safe vs) → AllByRecursion P (cond b (v ∷ keep safe vs) (keep safe vs))
      by true rest = (all.0, rest)
      by false rest = rest

module _ {G : Type 0} (bytes : G → List ℕ) (columns : List Column) where
  pub delta_merge_suits : (safe : ℕ) (old : SegmentView G) (built : Built G) → ViewSuits columns old → GivesDeltaMerge bytes safe old (Ok built) → PiecesSuit columns built.pieces
  delta_merge_suits safe old built suits gives = by built.pieces gives
    where
      by : (pieces : List Piece) → IsOne (λ (piece : Piece). IsCollection bytes safe old piece.versions) pieces → PiecesSuit columns pieces
      by [] c = absurd c
      by (x ∷ y ∷ more) c = absurd c
      by (piece ∷ []) c = (subst (AllByRecursion (Suits columns)) (sym c.kept) (kept_all (Suits columns) safe c.present (present_suits bytes columns old c.present suits c.are)), tt)
