-- What a merge of two segments builds.
use Rattle.std.specs.Prelude.{◌≡◌, ℕ, true, Some, List, [], ◌∷◌, ◌++◌, Result, Ok, Err}
use Rattle.flash_list.specs.Steps.{◌>>=◌}
use Rattle.column_block.specs.declared.cell.Version.{Version}
use Rattle.column_block.specs.declared.column.Column.{Column}
use Rattle.flash_types.specs.Ranges.{is_below}
use Rattle.flash_types.specs.declared.range.HandleRange.{HandleRange}
use Rattle.pack_codec.specs.declared.fault.FormError.{FormError}
use Rattle.delta_layer.specs.Built.{IsOne, IsSegment, FailsAs}
use Rattle.delta_layer.specs.Present.{IsPresent}
use Rattle.delta_layer.specs.Stable.{stable_in}
use Rattle.delta_layer.specs.declared.built.Built.{Built}
use Rattle.delta_layer.specs.declared.built.BuildError.{BuildError}
use Rattle.delta_layer.specs.declared.built.Job.TheVariants.{Merge}
use Rattle.delta_layer.specs.declared.built.Piece.{Piece}
use Rattle.delta_layer.specs.declared.view.SegmentView.{SegmentView}

-- Each range has a handle, and the second begins where the first ends.
pub record Touch (left right : HandleRange) : Type 0 where
  pub left_filled : is_below left.low left.high ≡ true
  pub right_filled : is_below right.low right.high ≡ true
  pub seam : left.high ≡ Some right.low

-- the handles of both
abbrev pub joined : HandleRange → HandleRange → HandleRange
joined left right = record { low = left.low; high = right.high }

-- It is the merge of these two segments: one segment of both ranges, in packs of so many rows.
pub record IsMerge {G : Type 0} (columns : List Column) (rows : ℕ) (left right : SegmentView G) (built : Built G) : Type 0 where
  pub job : built.job ≡ Merge left.seg
  pub views : built.views ≡ left ∷ right ∷ []
  pub safe_point : built.safe_point ≡ 0
  pub piece : IsOne (λ (piece : Piece). IsSegment columns rows (joined left.range right.range) piece) built.pieces

-- These are the versions that are present in the first segment, and then those of the second.
pub record IsTogether {G : Type 0} (bytes : G → List ℕ) (left right : SegmentView G) (versions : List Version) : Type 0 where
  pub of_left : List Version
  pub of_right : List Version
  pub left_are : IsPresent bytes left.range left.stable left.delta of_left
  pub right_are : IsPresent bytes right.range right.stable right.delta of_right
  pub together : versions ≡ of_left ++ of_right

-- the reading of both stable parts, the first one first
abbrev pub both_in : {G : Type 0} → (G → List ℕ) → SegmentView G → SegmentView G → Result (List Version) FormError
both_in bytes left right = stable_in bytes left.stable >>= λ versions. stable_in bytes right.stable

-- What a merge answers where a grip's bytes are known: a segment with the versions of both, or it fails as the reading of the first stable part does that doesn't read.
abbrev pub GivesMerge : {G : Type 0} → (G → List ℕ) → SegmentView G → SegmentView G → Result (Built G) BuildError → Type 0
GivesMerge bytes left right (Ok built) = IsOne (λ (piece : Piece). IsTogether bytes left right piece.versions) built.pieces
GivesMerge bytes left right (Err e) = FailsAs e (both_in bytes left right)
