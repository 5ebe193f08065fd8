-- Where a segment is split, and what its halves have.
use Rattle.std.specs.Prelude.{◌≡◌, ℕ, ◌<◌, ◌/◌, ℤ, true, false, ◌&&◌, ◌||◌, Some, List, [], ◌∷◌, ◌++◌, length, map, slice_get, int_lt, Result, Ok, Err}
use Rattle.std.specs.List.{dedup}
use Rattle.std.specs.Ordering.{int_eq}
use Rattle.column_block.specs.declared.cell.Version.{Version}
use Rattle.column_block.specs.declared.column.Column.{Column}
use Rattle.flash_types.specs.Ranges.{holds}
use Rattle.flash_types.specs.declared.range.HandleRange.{HandleRange}
use Rattle.column_block.specs.Order.{Rise}
use Rattle.delta_layer.specs.Built.{AreTwo, IsSegment, FailsAs}
use Rattle.delta_layer.specs.Present.{AreWithin, IsPresent}
use Rattle.delta_layer.specs.Stable.{stable_in}
use Rattle.delta_layer.specs.declared.built.Built.{Built}
use Rattle.delta_layer.specs.declared.built.BuildError.{BuildError}
use Rattle.delta_layer.specs.declared.built.BuildError.TheVariants.{Device, Damaged, OneHandle, Memory}
use Rattle.delta_layer.specs.declared.built.Job.TheVariants.{Split}
use Rattle.delta_layer.specs.declared.built.Piece.{Piece}
use Rattle.delta_layer.specs.declared.view.SegmentView.{SegmentView}

-- ---- where

-- the handles of versions in order, each once
abbrev pub handles : List Version → List ℤ
handles versions = dedup int_eq (map (λ (v : Version). v.handle) versions)

-- The range can be split at this handle: it holds it, and it isn't the lowest one.
pub record IsCut (range : HandleRange) (at : ℤ) : Type 0 where
  pub above : int_lt range.low at ≡ true
  pub within : holds range at ≡ true

-- Of n handles, two at least, it is the one at place n / 2.
pub record IsMiddle (versions : List Version) (at : ℤ) : Type 0 where
  pub many : 1 < length (handles versions)
  pub middle : slice_get (handles versions) (length (handles versions) / 2) ≡ Some at

-- the versions that are present in a segment, where a grip's bytes are known, are such
pub record PresentAre {G : Type 0} (bytes : G → List ℕ) (old : SegmentView G) (P : List Version → Type 0) : Type 0 where
  pub present : List Version
  pub are : IsPresent bytes old.range old.stable old.delta present
  pub such : P present

-- What the choice of a handle answers: the middle one, that there are too few, or a failure as the reading of the stable part fails.
abbrev pub GivesMiddle : {G : Type 0} → (G → List ℕ) → SegmentView G → Result ℤ BuildError → Type 0
GivesMiddle bytes old (Ok at) = PresentAre bytes old (λ (versions : List Version). IsMiddle versions at)
GivesMiddle bytes old (Err Device) = Unit {0}
GivesMiddle bytes old (Err (Damaged at)) = FailsAs (Damaged at) (stable_in bytes old.stable)
GivesMiddle bytes old (Err OneHandle) = PresentAre bytes old (λ (versions : List Version). length (handles versions) < 2)
GivesMiddle bytes old (Err Memory) = Unit {0}

-- ---- the halves

-- the handles below one, and those from it on
abbrev pub lower : ℤ → HandleRange → HandleRange
lower at range = record { low = range.low; high = Some at }

abbrev pub upper : ℤ → HandleRange → HandleRange
upper at range = record { low = at; high = range.high }

-- Each handle of the range is in one half, and in one alone.
abbrev pub HalvesPart : Type 0
HalvesPart = (range : HandleRange) (at h : ℤ) → IsCut range at → (holds range h ≡ (holds (lower at range) h || holds (upper at range) h)) × ((holds (lower at range) h && holds (upper at range) h) ≡ false)

-- Versions of a range, cut at a handle: those of the lower half and those of the upper one, each in order.
pub record AreHalves (range : HandleRange) (at : ℤ) (versions low high : List Version) : Type 0 where
  pub together : low ++ high ≡ versions
  pub low_rise : Rise low
  pub high_rise : Rise high
  pub low_within : AreWithin (lower at range) low
  pub high_within : AreWithin (upper at range) high

-- It is the split of this segment at the handle: a segment for each half, in packs of so many rows.
pub record IsSplit {G : Type 0} (columns : List Column) (rows : ℕ) (at : ℤ) (old : SegmentView G) (built : Built G) : Type 0 where
  pub job : built.job ≡ Split old.seg
  pub views : built.views ≡ old ∷ []
  pub safe_point : built.safe_point ≡ 0
  pub pieces : AreTwo (λ (l u : Piece). IsSegment columns rows (lower at old.range) l × IsSegment columns rows (upper at old.range) u) built.pieces

-- What a split answers: two segments that together have the versions that are present, or a failure as the reading of the stable part fails.
abbrev pub GivesSplit : {G : Type 0} → (G → List ℕ) → SegmentView G → Result (Built G) BuildError → Type 0
GivesSplit bytes old (Ok built) = AreTwo (λ (l u : Piece). IsPresent bytes old.range old.stable old.delta (l.versions ++ u.versions)) built.pieces
GivesSplit bytes old (Err e) = FailsAs e (stable_in bytes old.stable)
