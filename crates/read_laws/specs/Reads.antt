-- When pieces of a replica tell a read of a log, and the rows that are read of them.
use Rattle.std.specs.Prelude.{◌≡◌, ◌≤◌, ℕ, ℤ, ◌<ℤ◌, Bool, true, false, Option, Some, None, List, Ok, find, option_map, slice_get, if◌then◌else◌}
use Rattle.std.specs.List.{AllPairs, Contains}
use Rattle.std.specs.Ordering.{int_eq}
use Rattle.column_block.specs.declared.cell.Cell.{Cell}
use Rattle.column_block.specs.declared.cell.Row.{Row}
use Rattle.column_block.specs.declared.cell.Version.{Version}
use Rattle.flash_types.specs.Ranges.{holds}
use Rattle.flash_types.specs.declared.range.HandleRange.{HandleRange}
use Rattle.flash_types.specs.declared.refusal.Cut.{Cut}
use Rattle.committed_log.specs.Log.{Log}
use Rattle.log_laws.specs.Rows.{IsSettledCut, is_wanted}
use Rattle.good_replica.specs.Changed.{of_parts, view}
use Rattle.good_replica.specs.Good.{IsGoodSegment}
use Rattle.good_replica.specs.Shows.{Shows}
use Rattle.good_replica.specs.Trail.{Segment}
use Rattle.delta_layer.specs.Files.{files_of}
use Rattle.delta_layer.specs.Stable.{stable_in}
use Rattle.delta_layer.specs.declared.view.SegmentView.{SegmentView}
use Rattle.learner_read.specs.Pieces.{is_needed}

-- ---- the pieces

-- one of the pieces has the handle
pub record HasPiece {G : Type 0} (pieces : List (SegmentView G)) (h : ℤ) : Type 0 where
  pub place : ℕ
  pub piece : SegmentView G
  pub here : slice_get pieces place ≡ Some piece
  pub held : holds piece.range h ≡ true

-- The timestamp isn't below the safe point, and each cut is of a settled region; each handle that is wanted is of a piece; and each piece is good, where its stable part reads.
pub record TellRead {G : Type 0} (bytes : G → List ℕ) (log : Log) (A : ℕ → Bool) (m safe : ℕ) (cuts : List Cut) (ts : ℕ) (clip : HandleRange) (pieces : List (SegmentView G)) : Type 0 where
  pub time : safe ≤ ts
  pub settled : (cut : Cut) → Contains cuts cut → IsSettledCut log A m cut
  pub cover : (h : ℤ) → is_wanted clip cuts h ≡ true → HasPiece pieces h
  pub good : (k : ℕ) (piece : SegmentView G) → slice_get pieces k ≡ Some piece → (stable : List Version) → stable_in bytes piece.stable ≡ Ok stable → IsGoodSegment log A m safe (of_parts piece.range stable (files_of piece.delta))

-- one of the segments has the handle, and a read with this clip and these cuts needs it
pub record HasNeeded (clip : HandleRange) (cuts : List Cut) (segments : List Segment) (h : ℤ) : Type 0 where
  pub place : ℕ
  pub segment : Segment
  pub here : slice_get segments place ≡ Some segment
  pub held : holds segment.range h ≡ true
  pub needed : is_needed clip cuts segment.range ≡ true

-- ---- the rows

-- a version that a read gives, as a row
abbrev pub row_in : Version → Row
row_in v = record { handle = v.handle; cells = v.cells }

-- the cells that versions have of a handle
abbrev pub cells_of : ℤ → List Version → Option (List Cell)
cells_of h versions = option_map (λ (v : Version). v.cells) (find (λ (v : Version). int_eq v.handle h) versions)

-- the cells, where they pass
abbrev pub passed : (List Cell → Bool) → Option (List Cell) → Option (List Cell)
passed passes None = None
passed passes (Some cells) = if passes cells then Some cells else None

-- Of the handle the versions have what the piece shows at the timestamp, where that passes.
pub record HaveShown {G : Type 0} (bytes : G → List ℕ) (passes : List Cell → Bool) (ts : ℕ) (piece : SegmentView G) (h : ℤ) (found : List Version) : Type 0 where
  pub stable : List Version
  pub reads : stable_in bytes piece.stable ≡ Ok stable
  pub shown : Option (List Cell)
  pub shows : Shows (view h stable (files_of piece.delta)) ts shown
  pub kept : cells_of h found ≡ passed passes shown

-- What was read of the pieces. The handles rise, each once; of a handle that isn't wanted there is none; and of one that is wanted there is what its piece shows, where that passes.
pub record AreReadOf {G : Type 0} (bytes : G → List ℕ) (passes : List Cell → Bool) (cuts : List Cut) (ts : ℕ) (clip : HandleRange) (pieces : List (SegmentView G)) (found : List Version) : Type 0 where
  pub rise : AllPairs (λ (v w : Version). v.handle <ℤ w.handle) found
  pub others : (h : ℤ) → is_wanted clip cuts h ≡ false → cells_of h found ≡ None
  pub shown : (k : ℕ) (piece : SegmentView G) → slice_get pieces k ≡ Some piece → (h : ℤ) → holds piece.range h ≡ true → is_wanted clip cuts h ≡ true → HaveShown bytes passes ts piece h found
