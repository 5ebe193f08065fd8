-- What is kept of versions within a range lies in it, and the piece of it is a segment.
use Rattle.std.proofs.Common.{◌≡◌, ◌∙◌, ℕ, List, [], ◌∷◌, Bool, true, false, cond, sym, subst}
use Rattle.column_block.specs.declared.cell.Version.{Version}
use Rattle.column_block.specs.declared.column.Column.{Column}
use Rattle.flash_types.specs.declared.range.HandleRange.{HandleRange}
use Rattle.version_gc.specs.Keep.{is_kept, keep}
use Rattle.column_block.specs.Order.{Rise}
use Rattle.version_gc.proofs.Collections.{kept_rise}
use Rattle.delta_layer.specs.Built.{IsOne, IsSegment}
use Rattle.delta_layer.specs.Pieces.{IsStablePiece}
use Rattle.delta_layer.specs.Present.{AreWithin}
use Rattle.delta_layer.specs.declared.built.Piece.{Piece}

kept_within : (range : HandleRange) (safe : ℕ) (versions : List Version) → AreWithin range versions → AreWithin range (keep safe versions)
kept_within range safe [] all = all
kept_within range safe (v ∷ vs) all = by (is_kept safe v vs) (kept_within range safe vs all.1)
  where
    by : (b : Bool) → AreWithin range (keep safe vs) → AreWithin range (cond b (v ∷ keep safe vs) (keep safe vs))
    by true rest = (all.0, rest)
    by false rest = rest

pub kept_rises : (safe : ℕ) (present kept : List Version) → kept ≡ keep safe present → Rise present → Rise kept
kept_rises safe present kept is rise = subst Rise (sym is) (kept_rise safe present rise)

pub is_segment : (columns : List Column) (rows safe : ℕ) (range : HandleRange) (present kept : List Version) (piece : Piece) (pieces : List Piece) → kept ≡ keep safe present → Rise present → AreWithin range present
    → piece.range ≡ range → piece.versions ≡ kept → IsStablePiece columns rows kept piece.bytes → pieces ≡ piece ∷ [] → IsOne (λ (one : Piece). IsSegment columns rows range one) pieces
is_segment columns rows safe range present kept piece pieces is rise within has_range has bytes are =
    let segment : IsSegment columns rows range piece = record {
      range = has_range;
      rise = subst Rise (sym has) (kept_rises safe present kept is rise);
      within = subst (AreWithin range) (sym (has ∙ is)) (kept_within range safe present within);
      bytes = subst (λ (versions : List Version). IsStablePiece columns rows versions piece.bytes) (sym has) bytes;
    } in
    subst (IsOne (λ (one : Piece). IsSegment columns rows range one)) (sym are) segment
