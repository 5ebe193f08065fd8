-- When a scan of a snapshot gives the log's rows.
use Rattle.std.specs.Prelude.{◌≡◌, ℕ, Bool, true, Option, Some, None, List, [], length, map, filter, Result, Ok, Err}
use Rattle.std.specs.List.{AllByRecursion}
use Rattle.column_block.specs.declared.cell.Cell.{Cell}
use Rattle.column_block.specs.declared.cell.Row.{Row}
use Rattle.column_block.specs.declared.cell.Version.{Version}
use Rattle.column_block.specs.declared.column.Bound.{Bound}
use Rattle.flash_types.specs.Asks.{Asked}
use Rattle.pack_codec.specs.declared.fault.FormError.{FormError}
use Rattle.committed_log.specs.Log.{Log}
use Rattle.committed_log.specs.Reads.{rows}
use Rattle.committed_log.specs.Replies.{AreCuts}
use Rattle.good_replica.specs.Changed.{of_parts}
use Rattle.good_replica.specs.Trail.{Segment}
use Rattle.delta_layer.specs.Files.{files_of}
use Rattle.delta_layer.specs.Stable.{stable_in}
use Rattle.delta_layer.specs.declared.view.SegmentView.{SegmentView}
use Rattle.stable_file.specs.declared.file.StableFile.{StableFile}
use Rattle.stable_file.specs.declared.pack.Pack.{Pack}
use Rattle.learner_read.specs.Laws.{KeepsTest, TellsColumn}
use Rattle.learner_read.specs.Packs.{packs_in}
use Rattle.learner_read.specs.Scans.{Answers, Scans}
use Rattle.learner_read.specs.declared.snapshot.Snapshot.{Snapshot}
use Rattle.read_laws.specs.Reads.{row_in}
use Rattle.segment_list.specs.Slots.{Slotted}

-- ---- segments whose stable parts read

abbrev pub versions_or_none : Result (List Version) FormError → List Version
versions_or_none (Ok versions) = versions
versions_or_none (Err e) = []

module _ {G : Type 0} (bytes : G → List ℕ) where
  -- the versions of a stable part, where a grip's bytes are known
  abbrev pub stable_of : Option (StableFile G) → List Version
  stable_of part = versions_or_none (stable_in bytes part)

  -- the stable part reads as some versions
  abbrev pub Reads : Option (StableFile G) → Type 0
  Reads part = (versions : List Version) × (stable_in bytes part ≡ Ok versions)

  abbrev pub IsReadable : Slotted G → Type 0
  IsReadable s = Reads s.stable

  abbrev pub AreReadable : List (Slotted G) → Type 0
  AreReadable slots = AllByRecursion IsReadable slots

  -- what a segment has, all of its files
  abbrev pub whole : Slotted G → Segment
  whole s = of_parts s.range (stable_of s.stable) (files_of s.files)

-- ---- scans

-- the test of rows that answers as a function does
abbrev pub answers_as : (List Cell → Bool) → Answers
answers_as passes cells answer = passes cells ≡ answer

-- the footers of the stable parts tell of the bound's column
abbrev pub TellBound : {G : Type 0} → Option Bound → List (SegmentView G) → Type 0
TellBound {G} bound pieces = AllByRecursion (λ (piece : SegmentView G). AllByRecursion (TellsColumn bound) (packs_in piece.stable)) pieces

-- the footer that has these packs tells of so many columns
abbrev pub TellColumns : ℕ → List Pack → Type 0
TellColumns columns packs = AllByRecursion (λ (pack : Pack). length pack.ranges ≡ columns) packs

-- A scan of a snapshot with this test and bound meets no damage, and gives of these rows those that pass.
pub record ScansGive {G : Type 0} (bytes : G → List ℕ) (snapshot : Snapshot G) (passes : List Cell → Bool) (bound : Option Bound) (right : List Row) : Type 0 where
  pub rows : (found : List Version) → Scans bytes snapshot (answers_as passes) bound snapshot.pieces found None → map row_in found ≡ filter (λ (row : Row). passes row.cells) right
  pub undamaged : (found : List Version) (at : ℕ) → Scans bytes snapshot (answers_as passes) bound snapshot.pieces found (Some at) → ⊥

-- The snapshot is one of this read, where these entries of a log are applied, and a scan of it gives the log's rows: with a test those that pass, whatever bound it keeps, and with none all. It speaks of the snapshot alone, so that no later step ages it.
pub record IsRightScan {G : Type 0} (bytes : G → List ℕ) (log : Log) (A : ℕ → Bool) (ask : Asked) (snapshot : Snapshot G) : Type 0 where
  pub ts : snapshot.ts ≡ ask.ts
  pub clip : snapshot.clip ≡ ask.clip
  pub cuts : AreCuts log A ask.regions snapshot.cuts
  pub reads : AllByRecursion (λ (piece : SegmentView G). Reads bytes piece.stable) snapshot.pieces
  pub passing : (passes : List Cell → Bool) (bound : Option Bound) → KeepsTest (answers_as passes) bound → TellBound bound snapshot.pieces → ScansGive bytes snapshot passes bound (rows log snapshot.cuts ask.ts ask.clip)
  pub all : (found : List Version) → Scans bytes snapshot (answers_as (λ _. true)) None snapshot.pieces found None → map row_in found ≡ rows log snapshot.cuts ask.ts ask.clip
