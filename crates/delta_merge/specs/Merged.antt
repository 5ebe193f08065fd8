-- What a delta merge builds.
use Rattle.std.specs.Prelude.{◌≡◌, ℕ, List, [], ◌∷◌, Result, Ok, Err}
use Rattle.column_block.specs.declared.cell.Version.{Version}
use Rattle.column_block.specs.declared.column.Column.{Column}
use Rattle.version_gc.specs.Keep.{keep}
use Rattle.delta_layer.specs.Built.{IsOne, IsSegment, FailsAs}
use Rattle.delta_layer.specs.Present.{IsPresent}
use Rattle.delta_layer.specs.Stable.{stable_in}
use Rattle.delta_layer.specs.declared.built.Built.{Built}
use Rattle.delta_layer.specs.declared.built.BuildError.{BuildError}
use Rattle.delta_layer.specs.declared.built.Job.TheVariants.{MergeDelta}
use Rattle.delta_layer.specs.declared.built.Piece.{Piece}
use Rattle.delta_layer.specs.declared.view.SegmentView.{SegmentView}

-- It is the delta merge of this segment at the safe point: one segment of the same range, in packs of so many rows.
pub record IsDeltaMerge {G : Type 0} (columns : List Column) (rows safe : ℕ) (old : SegmentView G) (built : Built G) : Type 0 where
  pub job : built.job ≡ MergeDelta old.seg
  pub views : built.views ≡ old ∷ []
  pub safe_point : built.safe_point ≡ safe
  pub piece : IsOne (λ (piece : Piece). IsSegment columns rows old.range piece) built.pieces

-- These are what a collection keeps of the versions that are present in the segment.
pub record IsCollection {G : Type 0} (bytes : G → List ℕ) (safe : ℕ) (old : SegmentView G) (versions : List Version) : Type 0 where
  pub present : List Version
  pub are : IsPresent bytes old.range old.stable old.delta present
  pub kept : versions ≡ keep safe present

-- What a delta merge answers where a grip's bytes are known: a segment with what a collection keeps, or it fails as the reading of the stable part does.
abbrev pub GivesDeltaMerge : {G : Type 0} → (G → List ℕ) → ℕ → SegmentView G → Result (Built G) BuildError → Type 0
GivesDeltaMerge bytes safe old (Ok built) = IsOne (λ (piece : Piece). IsCollection bytes safe old piece.versions) built.pieces
GivesDeltaMerge bytes safe old (Err e) = FailsAs e (stable_in bytes old.stable)
