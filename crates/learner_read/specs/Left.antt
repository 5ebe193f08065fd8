-- What is left of a scan, and what its calls answer.
use Rattle.std.specs.Prelude.{◌≡◌, ℕ, ◌+◌, ◌<◌, ◌≤◌, Bool, true, false, slice_range, Option, Some, None, List, [], ◌++◌, length, Result, Ok, Err}
use Rattle.column_block.specs.declared.cell.Version.{Version}
use Rattle.column_block.specs.declared.column.Bound.{Bound}
use Rattle.delta_layer.specs.declared.view.SegmentView.{SegmentView}
use Rattle.stable_file.specs.declared.fault.ReadError.{ReadError}
use Rattle.stable_file.specs.declared.fault.ReadError.TheVariants as read
use Rattle.learner_read.specs.Parts.{LeftIn}
use Rattle.learner_read.specs.Scans.{Answers, AreRowsOrNone, Left}
use Rattle.learner_read.specs.declared.state.Part.{Part}
use Rattle.learner_read.specs.declared.state.Step.{Step}
use Rattle.learner_read.specs.declared.snapshot.Snapshot.{Snapshot}

-- What is left of a scan that has found these rows and not given them: they, and what is left of its pieces.
pub record LeftBy {G : Type 0} (bytes : G → List ℕ) (snapshot : Snapshot G) (test : Answers) (bound : Option Bound) (part : Option Part) (pieces : List (SegmentView G)) (found rows : List Version) (damage : Option ℕ) : Type 0 where
  pub later : List Version
  pub together : rows ≡ found ++ later
  pub left : LeftIn bytes snapshot test bound part pieces later damage

-- What a call answers that looks for the next rows of pieces: some, and where it found them; that there are none; or the place of the damage.
abbrev pub GivesStep : (ℕ → Option Part → Left) → Left → Result (Option Step) ReadError → Type 0
GivesStep left old (Ok (Some step)) = (later : List Version) (damage : Option ℕ) → left step.next step.part later damage → old (step.rows ++ later) damage
GivesStep left old (Ok None) = old [] None
GivesStep left old (Err (read.Damaged at)) = old [] (Some at)
GivesStep left old (Err e) = Unit {0}

-- the rows that were found are one at least, and of the snapshot
pub record IsStep {G : Type 0} (snapshot : Snapshot G) (step : Step) : Type 0 where
  pub some : 0 < length step.rows
  pub rows : AreRowsOrNone snapshot step.rows

-- the place of the piece that a scan is in or comes to, behind rows of the piece at a place of which so much is left
abbrev pub next_place : ℕ → Option Part → ℕ
next_place k None = k + 1
next_place k (Some part) = k

-- a block of some of the rows that were found, from one that wasn't given to the one that is next then, and not more than so many
pub record IsBlock (rows : ℕ) (found : List Version) (given next : ℕ) (block : List Version) : Type 0 where
  pub some : given < next
  pub within : next ≤ length found
  pub most : next ≤ given + rows
  pub is : block ≡ slice_range found given next

abbrev pub IsSomeBlock : ℕ → List Version → ℕ → ℕ → Option (List Version) → Type 0
IsSomeBlock rows found given next None = ⊥
IsSomeBlock rows found given next (Some block) = IsBlock rows found given next block

-- What a call answers that looks for more rows: that it found some, that there are none, or the place of the damage.
abbrev pub GivesMore : Left → Left → List Version → Result Bool ReadError → Type 0
GivesMore old new found (Ok true) = (later : List Version) (damage : Option ℕ) → new later damage → old (found ++ later) damage
GivesMore old new found (Ok false) = old [] None × new [] None
GivesMore old new found (Err (read.Damaged at)) = old [] (Some at)
GivesMore old new found (Err e) = Unit {0}

-- where there are more rows, they are one at least, of the snapshot, and none was given; else nothing changed
abbrev pub IsFilled : {G : Type 0} → Snapshot G → List Version → List Version → ℕ → ℕ → Bool → Type 0
IsFilled snapshot old new given next true = (0 < length new) × (AreRowsOrNone snapshot new × (next ≡ 0))
IsFilled snapshot old new given next false = (new ≡ old) × (next ≡ given)
