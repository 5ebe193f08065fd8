use Rattle.flash_io.specs.Image.{Image}
use Rattle.flash_io.specs.Crash.{Elsewhere, Removed}
use Rattle.flash_io.proofs.Moments.{weaken}
use Rattle.manifest.specs.Made.{OldOrMade}
use Rattle.manifest.specs.Runs.{OldOrNew}
use Rattle.manifest.specs.Stores.{has_of, has_with}
use Rattle.store_image.specs.Images.{StandsForSome}
use Rattle.store_image.proofs.Begun.{begun}
use Rattle.store_image.proofs.Keeping.{commit_stands, creation_stands, elsewhere_stands}
use Rattle.store_image.proofs.sound.runs_leave_standing_images.Goals as goal

pub returns-clause-staged : goal.returns-clause-staged
returns-clause-staged g c = λ log m file old new sound kept out run.
    weaken g.D.Disk.moment g.D.Disk.left_since old new (Elsewhere file (g.D.Disk.may_leave old)) (StandsForSome log) run (elsewhere_stands log (g.D.Disk.files old) (g.D.Disk.may_leave old) sound m kept file out)

pub returns-clause-removed : goal.returns-clause-removed
returns-clause-removed g c = λ log m file old new sound kept out run.
    weaken g.D.Disk.moment g.D.Disk.left_since old new (λ x. (d : Image) × g.D.Disk.may_leave old d × Removed file d x) (StandsForSome log) run
    (λ x was. elsewhere_stands log (g.D.Disk.files old) (g.D.Disk.may_leave old) sound m kept file out x (was.0, was.1, was.2.0))

pub returns-clause-committed : goal.returns-clause-committed
returns-clause-committed g c = λ log m A state old new sound kept stand run.
    weaken g.D.Disk.moment g.D.Disk.left_since old new (OldOrNew (g.D.Disk.may_leave old) m.file (has_of m) (has_with m state)) (StandsForSome log) run (commit_stands log (g.D.Disk.files old) (g.D.Disk.may_leave old) sound m kept A state stand)

pub returns-clause-made : goal.returns-clause-made
returns-clause-made g c = λ log old new sound run.
    weaken g.D.Disk.moment g.D.Disk.left_since old new (OldOrMade (g.D.Disk.may_leave old) (begun log)) (StandsForSome log) run (creation_stands log (g.D.Disk.files old) (g.D.Disk.may_leave old) sound)

pub returns-clause-unchanged : goal.returns-clause-unchanged
returns-clause-unchanged g c = λ log old new sound run.
    weaken g.D.Disk.moment g.D.Disk.left_since old new (g.D.Disk.may_leave old) (StandsForSome log) run sound.stands
