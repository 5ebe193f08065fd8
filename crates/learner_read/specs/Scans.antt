-- What a scan of a snapshot gives.
use Rattle.std.specs.Prelude.{◌≡◌, ◌⊎◌, ℕ, ◌<◌, ◌≤◌, ◌<ℤ◌, Bool, true, false, Option, Some, None, List, [], ◌∷◌, ◌++◌, length, Result, Ok, Err}
use Rattle.std.specs.Fn.{Shared, FnReturnsAt}
use Rattle.std.specs.List.{AllByRecursion, AllPairs}
use denote.Ref.{Bor}
use Rattle.column_block.specs.declared.cell.Cell.{Cell}
use Rattle.column_block.specs.declared.cell.Version.{Version}
use Rattle.column_block.specs.declared.column.Bound.{Bound}
use Rattle.flash_types.specs.Ranges.{holds, part_below}
use Rattle.flash_types.specs.declared.range.HandleRange.{HandleRange}
use Rattle.pack_codec.specs.declared.fault.FormError.TheVariants as form
use Rattle.stable_file.specs.declared.fault.ReadError.{ReadError}
use Rattle.stable_file.specs.declared.fault.ReadError.TheVariants as read
use Rattle.stable_file.specs.declared.pack.Pack.{Pack}
use Rattle.delta_layer.specs.Files.{files_of}
use Rattle.delta_layer.specs.Present.{ArePresent}
use Rattle.delta_layer.specs.declared.view.SegmentView.{SegmentView}
use Rattle.learner_read.specs.Packs.{packs_in, read_in, read_of}
use Rattle.learner_read.specs.Pieces.{is_needed}
use Rattle.learner_read.specs.Rows.{is_asked, rows_within, shown_rows}
use Rattle.learner_read.specs.declared.snapshot.Snapshot.{Snapshot}

-- the rows that a read of the snapshot shows of these present versions
abbrev pub rows_of : {G : Type 0} → Snapshot G → List Version → List Version
rows_of snapshot versions = rows_within snapshot.clip snapshot.cuts (shown_rows snapshot.ts versions)

abbrev pub needs : {G : Type 0} → Snapshot G → SegmentView G → Type 0
needs snapshot piece = is_needed snapshot.clip snapshot.cuts piece.range ≡ true

-- what a test of rows, a closure of their cells, may answer
abbrev pub Answers : Type 1
Answers = List Cell → Bool → Type 0

abbrev pub answers_of : {F : Type 0} → Shared F (Bor (List Cell) × Unit {0}) Bool → F → Answers
answers_of g test cells answer = FnReturnsAt g test cells answer

-- The second are those of the first that pass the test, in their order.
pub data Pass (test : Answers) : List Version → List Version → Type 0 where
  End : Pass test [] []
  Kept : (v : Version) (vs passed : List Version) → test v.cells true → Pass test vs passed → Pass test (v ∷ vs) (v ∷ passed)
  Dropped : (v : Version) (vs passed : List Version) → test v.cells false → Pass test vs passed → Pass test (v ∷ vs) passed

-- What is left of a piece, where a grip's bytes are known, of the handles of this range: of the stable versions that were read before, those of the packs that are left, and the delta above them, the rows that pass. Where a pack isn't of the form they are those of handles below its first, and its damage.
pub data Leaves {G : Type 0} (bytes : G → List ℕ) (snapshot : Snapshot G) (test : Answers) (piece : SegmentView G) (rest : HandleRange) (before : List Version) (packs : List Pack) : List Version → Option ℕ → Type 0 where
  Whole : (stable versions rows : List Version) → read_in bytes piece.stable before packs ≡ Ok stable → ArePresent rest stable (files_of piece.delta) versions → Pass test (rows_of snapshot versions) rows → Leaves bytes snapshot test piece rest before packs rows None
  Stopped : (first : List Pack) (pack : Pack) (more : List Pack) (stable versions rows : List Version) (at : ℕ) → packs ≡ first ++ pack ∷ more → read_in bytes piece.stable before first ≡ Ok stable → read_in bytes piece.stable stable (pack ∷ []) ≡ Err (form.Damaged at) →
      ArePresent (part_below rest pack.low) stable (files_of piece.delta) versions → Pass test (rows_of snapshot versions) rows → Leaves bytes snapshot test piece rest before packs rows (Some at)

-- what a scan gives of a whole piece: of its handles, by the packs that it reads
abbrev pub Shows : {G : Type 0} → (G → List ℕ) → Snapshot G → Answers → Option Bound → SegmentView G → List Version → Option ℕ → Type 0
Shows bytes snapshot test bound piece rows damage = Leaves bytes snapshot test piece piece.range [] (read_of snapshot bound piece None (packs_in piece.stable)) rows damage

-- What a scan of these pieces of a snapshot gives, where a grip's bytes are known, with a test of rows and the bound that it keeps: rows, and the place of the damage at which it ends, if there is any. A piece that the read doesn't need is passed over.
pub data Scans {G : Type 0} (bytes : G → List ℕ) (snapshot : Snapshot G) (test : Answers) (bound : Option Bound) : List (SegmentView G) → List Version → Option ℕ → Type 0 where
  End : Scans bytes snapshot test bound [] [] None
  Passed : (piece : SegmentView G) (more : List (SegmentView G)) (rows : List Version) (damage : Option ℕ) → is_needed snapshot.clip snapshot.cuts piece.range ≡ false → Scans bytes snapshot test bound more rows damage → Scans bytes snapshot test bound (piece ∷ more) rows damage
  Shown : (piece : SegmentView G) (more : List (SegmentView G)) (here rows : List Version) (damage : Option ℕ) → needs snapshot piece → Shows bytes snapshot test bound piece here None → Scans bytes snapshot test bound more rows damage → Scans bytes snapshot test bound (piece ∷ more) (here ++ rows) damage
  Broken : (piece : SegmentView G) (more : List (SegmentView G)) (rows : List Version) (at : ℕ) → needs snapshot piece → Shows bytes snapshot test bound piece rows (Some at) → Scans bytes snapshot test bound (piece ∷ more) rows (Some at)

-- What is left of a scan: rows, and the damage at which it ends, if there is any.
abbrev pub Left : Type 1
Left = List Version → Option ℕ → Type 0

-- What a call answers, of what was left of a scan, that leaves the rest: some first rows, that there are none, or the place of the damage.
abbrev pub GivesNext : Left → Left → Result (Option (List Version)) ReadError → Type 0
GivesNext old new (Ok (Some block)) = (rows : List Version) (damage : Option ℕ) → new rows damage → old (block ++ rows) damage
GivesNext old new (Ok None) = old [] None × new [] None
GivesNext old new (Err (read.Damaged at)) = old [] (Some at)
GivesNext old new (Err e) = Unit {0}

-- Rows of a scan: their handles rise, and are asked for.
pub record AreRowsOrNone {G : Type 0} (snapshot : Snapshot G) (block : List Version) : Type 0 where
  pub rise : AllPairs (λ (v w : Version). v.handle <ℤ w.handle) block
  pub asked : AllByRecursion (λ (v : Version). is_asked snapshot.clip snapshot.cuts v.handle ≡ true) block
  pub puts : AllByRecursion (λ (v : Version). v.gone ≡ false) block
  pub old : AllByRecursion (λ (v : Version). v.ts ≤ snapshot.ts) block

-- they are of this range of handles
abbrev pub AreOf : HandleRange → List Version → Type 0
AreOf range block = AllByRecursion (λ (v : Version). holds range v.handle ≡ true) block

-- A block of a scan has from one to so many rows.
pub record AreRows {G : Type 0} (snapshot : Snapshot G) (block : List Version) : Type 0 where
  pub some : 0 < length block
  pub most : length block ≤ snapshot.pack_rows
  pub rows : AreRowsOrNone snapshot block
