-- What is left of a piece that a scan is in, step by step. No contract of a public call cites these.
use Rattle.std.specs.Prelude.{◌≡◌, ℕ, ◌<◌, ℤ, ◌<ℤ◌, ◌≤ℤ◌, Option, Some, None, List, [], ◌∷◌, ◌++◌, length, drop, int_le, if◌then◌else◌, IsSome, Result, Ok, Err}
use Rattle.std.specs.List.{AllByRecursion}
use Rattle.column_block.specs.declared.cell.Version.{Version}
use Rattle.column_block.specs.declared.column.Bound.{Bound}
use Rattle.delta_layer.specs.Present.{ArePresent}
use Rattle.delta_layer.specs.declared.view.SegmentView.{SegmentView}
use Rattle.flash_types.specs.Ranges.{part_from}
use Rattle.flash_types.specs.declared.range.HandleRange.{HandleRange}
use Rattle.good_replica.specs.Trail.{DeltaFile}
use Rattle.stable_file.specs.declared.fault.ReadError.{ReadError}
use Rattle.stable_file.specs.declared.fault.ReadError.TheVariants as read
use Rattle.stable_file.specs.declared.pack.Pack.{Pack}
use Rattle.learner_read.specs.Packs.{before_of, packs_in, read_of}
use Rattle.learner_read.specs.Scans.{Answers, AreOf, AreRowsOrNone, Leaves, Left, Pass, Scans, rows_of}
use Rattle.learner_read.specs.declared.state.Below.{Below}
use Rattle.learner_read.specs.declared.state.Found.{Found}
use Rattle.learner_read.specs.declared.state.Part.{Part}
use Rattle.learner_read.specs.declared.snapshot.Snapshot.{Snapshot}

-- each handle is below this one, or none is
abbrev pub AreBelow : ℤ → List Version → Type 0
AreBelow bound vs = AllByRecursion (λ (v : Version). v.handle <ℤ bound) vs

abbrev pub AreAbove : ℤ → List Version → Type 0
AreAbove bound vs = AllByRecursion (λ (v : Version). bound ≤ℤ v.handle) vs

abbrev pub PacksAreAbove : ℤ → List Pack → Type 0
PacksAreAbove bound packs = AllByRecursion (λ (pack : Pack). bound ≤ℤ pack.low) packs

-- the part of a piece's range from a handle on, all of it at first
abbrev pub rest_of : HandleRange → Option ℤ → HandleRange
rest_of range None = range
rest_of range (Some from) = if int_le from range.low then range else part_from range from

-- The rows are those that pass of what is present in a range, of these stable versions and files above them.
pub record HasRows {G : Type 0} (snapshot : Snapshot G) (test : Answers) (range : HandleRange) (stable : List Version) (files : List DeltaFile) (rows : List Version) : Type 0 where
  pub versions : List Version
  pub present : ArePresent range stable files versions
  pub pass : Pass test (rows_of snapshot versions) rows

-- The rows that come first are of the piece's range.
pub record IsBelow {G : Type 0} (snapshot : Snapshot G) (range : HandleRange) (below : Below) : Type 0 where
  pub rows : AreRowsOrNone snapshot below.rows
  pub of : AreOf range below.rows

-- The next rows of a piece are of its range, and one at least where they aren't its last.
pub record IsFound {G : Type 0} (snapshot : Snapshot G) (range : HandleRange) (found : Found) : Type 0 where
  pub some : IsSome found.part → 0 < length found.rows
  pub rows : AreRowsOrNone snapshot found.rows
  pub of : AreOf range found.rows

module _ {G : Type 0} (bytes : G → List ℕ) (snapshot : Snapshot G) (test : Answers) where
  -- what is left of a piece in this state, where these packs are left of those that are read
  abbrev pub LeftAt : SegmentView G → Part → List Pack → Left
  LeftAt piece part packs rows damage = Leaves bytes snapshot test piece (rest_of piece.range part.from) part.before packs rows damage

  -- These rows come first of what was left, and then what is left now, if the packs' handles aren't below this one.
  abbrev pub PutsBefore : SegmentView G → Part → Part → ℤ → List Version → Type 0
  PutsBefore piece old new bound rows = (packs : List Pack) (later : List Version) (damage : Option ℕ) → PacksAreAbove bound packs → LeftAt piece new packs later damage → LeftAt piece old packs (rows ++ later) damage

  -- the same of rows that come before a pack, or none, where the pack was read
  abbrev pub IsPast : SegmentView G → Part → Pack → List Version → Part → Type 0
  IsPast piece old pack [] new = (more : List Pack) (later : List Version) (damage : Option ℕ) → PacksAreAbove pack.low more → LeftAt piece new more later damage → LeftAt piece old (pack ∷ more) later damage
  IsPast piece old pack (row ∷ rows) new = PutsBefore piece old new pack.low (row ∷ rows)

  -- What going past a pack gives.
  abbrev pub GivesPast : SegmentView G → Part → Pack → Result Below ReadError → Type 0
  GivesPast piece old pack (Ok below) = IsPast piece old pack below.rows below.part
  GivesPast piece old pack (Err (read.Damaged at)) = (more : List Pack) → PacksAreAbove pack.low more → LeftAt piece old (pack ∷ more) [] (Some at)
  GivesPast piece old pack (Err e) = Unit {0}

  -- what is left of a piece in this state
  abbrev pub LeftOf : Option Bound → SegmentView G → Part → Left
  LeftOf bound piece part rows damage = LeftAt piece part (read_of snapshot bound piece (before_of (packs_in piece.stable) part.next) (drop part.next (packs_in piece.stable))) rows damage

  -- these rows come first, and then what is left of the piece, if it is anything
  abbrev pub IsNext : Option Bound → SegmentView G → Left → List Version → Option Part → Type 0
  IsNext bound piece old rows None = old rows None
  IsNext bound piece old rows (Some part) = (later : List Version) (damage : Option ℕ) → LeftOf bound piece part later damage → old (rows ++ later) damage

  -- What a call answers that looks for the next rows of a piece.
  abbrev pub GivesFound : Option Bound → SegmentView G → Part → Result Found ReadError → Type 0
  GivesFound bound piece part (Ok found) = IsNext bound piece (LeftOf bound piece part) found.rows found.part
  GivesFound bound piece part (Err (read.Damaged at)) = LeftOf bound piece part [] (Some at)
  GivesFound bound piece part (Err e) = Unit {0}

  -- What follows where so much of a piece is left: the rows of that, and then those of the pieces behind it, or its damage.
  pub data GoesOn (bound : Option Bound) (left : Left) (more : List (SegmentView G)) : List Version → Option ℕ → Type 0 where
    Then : (here rows : List Version) (damage : Option ℕ) → left here None → Scans bytes snapshot test bound more rows damage → GoesOn bound left more (here ++ rows) damage
    Stops : (rows : List Version) (at : ℕ) → left rows (Some at) → GoesOn bound left more rows (Some at)

  -- what is left of a piece, if it is anything, and of the pieces behind it
  abbrev pub LeftBehind : Option Bound → Option Part → SegmentView G → List (SegmentView G) → Left
  LeftBehind bound None piece more rows damage = Scans bytes snapshot test bound more rows damage
  LeftBehind bound (Some part) piece more rows damage = GoesOn bound (LeftOf bound piece part) more rows damage

  -- what is left of a scan that is in the first of these pieces, or before it
  abbrev pub LeftIn : Option Bound → Option Part → List (SegmentView G) → Left
  LeftIn bound None pieces rows damage = Scans bytes snapshot test bound pieces rows damage
  LeftIn bound (Some part) [] rows damage = Scans bytes snapshot test bound [] rows damage
  LeftIn bound (Some part) (piece ∷ more) rows damage = GoesOn bound (LeftOf bound piece part) more rows damage

  -- What a call answers that looks in one piece for rows, whatever pieces are behind it.
  abbrev pub GivesInPiece : Option Bound → Option Part → SegmentView G → Result Found ReadError → Type 0
  GivesInPiece bound part piece (Ok found) = (more : List (SegmentView G)) (later : List Version) (damage : Option ℕ) → LeftBehind bound found.part piece more later damage → LeftIn bound part (piece ∷ more) (found.rows ++ later) damage
  GivesInPiece bound part piece (Err (read.Damaged at)) = (more : List (SegmentView G)) → LeftIn bound part (piece ∷ more) [] (Some at)
  GivesInPiece bound part piece (Err e) = Unit {0}
