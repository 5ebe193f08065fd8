-- Scans with a test whose answers are those of a function.
use Rattle.std.proofs.Common.{◌≡◌, ℕ, Bool, true, false, Option, Some, None, List}
use Rattle.column_block.specs.declared.cell.Cell.{Cell}
use Rattle.column_block.specs.declared.cell.Version.{Version}
use Rattle.column_block.specs.declared.column.Bound.{Bound}
use Rattle.flash_types.specs.declared.range.HandleRange.{HandleRange}
use Rattle.delta_layer.specs.declared.view.SegmentView.{SegmentView}
use Rattle.stable_file.specs.declared.pack.Pack.{Pack}
use Rattle.learner_read.specs.Scans.{Answers, Leaves, Pass, Scans, rows_of}
use Rattle.learner_read.specs.Scans.Pass.{End as NoMore, Kept, Dropped}
use Rattle.learner_read.specs.Scans.Leaves.{Stopped, Whole}
use Rattle.learner_read.specs.Scans.Scans.{End, Passed, Shown, Broken}
use Rattle.learner_read.specs.declared.snapshot.Snapshot.{Snapshot}

module _ {G : Type 0} (bytes : G → List ℕ) (snapshot : Snapshot G) (test other : Answers) (same : (cells : List Cell) (answer : Bool) → test cells answer → other cells answer) (bound : Option Bound) where
  rows_pass : (vs passed : List Version) → Pass test vs passed → Pass other vs passed
  rows_pass _ _ NoMore = NoMore
  rows_pass _ _ (Kept v vs passed t rest) = Kept v vs passed (same v.cells true t) (rows_pass vs passed rest)
  rows_pass _ _ (Dropped v vs passed t rest) = Dropped v vs passed (same v.cells false t) (rows_pass vs passed rest)

  leaves : (piece : SegmentView G) (rest : HandleRange) (before : List Version) (packs : List Pack) (rows : List Version) (damage : Option ℕ) → Leaves bytes snapshot test piece rest before packs rows damage → Leaves bytes snapshot other piece rest before packs rows damage
  leaves piece rest before packs _ _ (Whole stable versions rows read present passes) = Whole stable versions rows read present (rows_pass (rows_of snapshot versions) rows passes)
  leaves piece rest before packs _ _ (Stopped first pack more stable versions rows at is read fails present passes) = Stopped first pack more stable versions rows at is read fails present (rows_pass (rows_of snapshot versions) rows passes)

  pub scans_by : (pieces : List (SegmentView G)) (found : List Version) (damage : Option ℕ) → Scans bytes snapshot test bound pieces found damage → Scans bytes snapshot other bound pieces found damage
  scans_by _ _ _ End = End
  scans_by _ _ _ (Passed piece more rows damage out scans) = Passed piece more rows damage out (scans_by more rows damage scans)
  scans_by _ _ _ (Shown piece more here rows damage needed shows scans) = Shown piece more here rows damage needed (leaves piece _ _ _ here None shows) (scans_by more rows damage scans)
  scans_by _ _ _ (Broken piece more rows at needed shows) = Broken piece more rows at needed (leaves piece _ _ _ rows (Some at) shows)
