-- The rows of a scan are the read rule.
use Rattle.std.specs.Prelude.{◌≡◌, ◌⊎◌, ℕ, ℤ, ◌<◌, ◌<ℤ◌, Bool, true, false, Option, Some, None, List, ◌++◌, length, Ok, slice_get}
use Rattle.std.specs.Fn.{Shared}
use Rattle.std.specs.List.{AllByRecursion, AllPairs}
use Rattle.std.specs.Option.{ForSome}
use denote.Ref.{Bor}
use Rattle.column_block.specs.Numbers.{has_bound}
use Rattle.column_block.specs.declared.cell.Cell.{Cell}
use Rattle.column_block.specs.declared.cell.Version.{Version}
use Rattle.column_block.specs.declared.column.Bound.{Bound}
use Rattle.flash_types.specs.Ranges.{holds}
use Rattle.good_replica.specs.Changed.{view}
use Rattle.good_replica.specs.Shows.{Shows}
use Rattle.delta_layer.specs.Files.{files_of}
use Rattle.delta_layer.specs.Stable.{stable_in}
use Rattle.delta_layer.specs.declared.view.SegmentView.{SegmentView}
use Rattle.sieve.specs.Sieves.{KeepsBound}
use Rattle.stable_file.specs.Opened.{IsPack, NeverFall}
use Rattle.stable_file.specs.declared.pack.Pack.{Pack}
use Rattle.learner_read.specs.Packs.{packs_in}
use Rattle.learner_read.specs.Pieces.{PiecesRise}
use Rattle.learner_read.specs.Rows.{cells_on, is_asked}
use Rattle.learner_read.specs.Scans.{Answers, Scans, answers_of}
use Rattle.learner_read.specs.declared.snapshot.Snapshot.{Snapshot}

-- ---- premises

-- wherever the test may answer true, the bound's column has a number of the bound
abbrev pub KeepsTest : Answers → Option Bound → Type 0
KeepsTest test bound = ForSome bound (λ (b : Bound). (cells : List Cell) → test cells true → has_bound b cells ≡ true)

-- the footer tells of the bound's column
abbrev pub TellsColumn : Option Bound → Pack → Type 0
TellsColumn None pack = Unit {0}
TellsColumn (Some bound) pack = bound.column < length pack.ranges

-- Each pack of the piece is of the form, and they rise together: its stable part reads as some versions. Its packs are those of an open file, which tells of the bound's column.
pub record IsWell {G : Type 0} (bytes : G → List ℕ) (bound : Option Bound) (piece : SegmentView G) : Type 0 where
  pub stable : List Version
  pub reads : stable_in bytes piece.stable ≡ Ok stable
  pub order : NeverFall (packs_in piece.stable)
  pub each : AllByRecursion IsPack (packs_in piece.stable)
  pub tells : AllByRecursion (TellsColumn bound) (packs_in piece.stable)

-- ---- the read rule

-- What is kept of a row with these cells, or of none: the row where it passes, and none where it doesn't.
abbrev pub KeptAs : Answers → Option (List Cell) → Option (List Cell) → Type 0
KeptAs test None kept = kept ≡ None
KeptAs test (Some cells) kept = ((kept ≡ Some cells) × test cells true) ⊎ ((kept ≡ None) × (test cells false ⊎ (test cells true → ⊥)))

-- What a piece shows of a handle at the snapshot's timestamp is, where it passes, what the rows have of it.
pub record ShowsRow {G : Type 0} (bytes : G → List ℕ) (snapshot : Snapshot G) (test : Answers) (piece : SegmentView G) (h : ℤ) (rows : List Version) : Type 0 where
  pub stable : List Version
  pub reads : stable_in bytes piece.stable ≡ Ok stable
  pub shown : Option (List Cell)
  pub shows : Shows (view h stable (files_of piece.delta)) snapshot.ts shown
  pub kept : KeptAs test shown (cells_on h rows)

-- The rows of a scan that ends without damage. Their handles rise, each once, and are asked for; and of each handle of a well piece that is asked for they have what the piece shows, where it passes.
pub record AreRead {G : Type 0} (bytes : G → List ℕ) (snapshot : Snapshot G) (test : Answers) (bound : Option Bound) (pieces : List (SegmentView G)) (rows : List Version) : Type 0 where
  pub rise : AllPairs (λ (v w : Version). v.handle <ℤ w.handle) rows
  pub asked : (h : ℤ) → is_asked snapshot.clip snapshot.cuts h ≡ false → cells_on h rows ≡ None
  pub within : (h : ℤ) → ((k : ℕ) (piece : SegmentView G) → slice_get pieces k ≡ Some piece → holds piece.range h ≡ false) → cells_on h rows ≡ None
  pub shown : (k : ℕ) (piece : SegmentView G) → slice_get pieces k ≡ Some piece → IsWell bytes bound piece → (h : ℤ) → holds piece.range h ≡ true → is_asked snapshot.clip snapshot.cuts h ≡ true → ShowsRow bytes snapshot test piece h rows

-- So it is, whatever packs are left unread.
abbrev pub ScansAreTheReadRule : {G F : Type 0} → (G → List ℕ) → Shared F (Bor (List Cell) × Unit {0}) Bool → Type 0
ScansAreTheReadRule {G} {F} bytes g = (snapshot : Snapshot G) (f : F) (bound : Option Bound) (pieces : List (SegmentView G)) (rows : List Version) → KeepsBound g f bound → PiecesRise pieces → Scans bytes snapshot (answers_of g f) bound pieces rows None → AreRead bytes snapshot (answers_of g f) bound pieces rows

-- A scan of well pieces meets no damage.
abbrev pub WellScansAreWhole : {G F : Type 0} → (G → List ℕ) → Shared F (Bor (List Cell) × Unit {0}) Bool → Type 0
WellScansAreWhole {G} {F} bytes g = (snapshot : Snapshot G) (f : F) (bound : Option Bound) (pieces : List (SegmentView G)) (rows : List Version) (at : ℕ) → AllByRecursion (λ (piece : SegmentView G). IsWell bytes bound piece) pieces → Scans bytes snapshot (answers_of g f) bound pieces rows (Some at) → ⊥

-- The scan of pieces is that of the first of them, and then that of the others; where it meets damage in the first, it ends there.
pub record ScansFollow {G : Type 0} (bytes : G → List ℕ) (snapshot : Snapshot G) (test : Answers) (bound : Option Bound) (first others : List (SegmentView G)) : Type 0 where
  pub goes_on : (rows later : List Version) (damage : Option ℕ) → Scans bytes snapshot test bound first rows None → Scans bytes snapshot test bound others later damage → Scans bytes snapshot test bound (first ++ others) (rows ++ later) damage
  pub ends : (rows : List Version) (at : ℕ) → Scans bytes snapshot test bound first rows (Some at) → Scans bytes snapshot test bound (first ++ others) rows (Some at)
