use Rattle.flash_io.proofs.Moments.{started}
use Rattle.manifest.specs.Rolled.{raised}
use Rattle.manifest.specs.Stores.{has_with}
use Rattle.manifest.proofs.NextFile.{still_old}
use Rattle.manifest.proofs.store.Manifest.roll.Goals as goal

pub returns-in_err-bytes-clause-any_moment : goal.returns-in_err-bytes-clause-any_moment
returns-in_err-bytes-clause-any_moment g c =
    let D = g.D.Disk in
    let m = c.args.self.now in
    let disk = c.args.disk.now in
    started D.moment D.left_since disk _ (λ x left. still_old m (D.may_leave disk) c.requires.kept (has_with m (raised m.state)) x (g.met.D.Disk.only_now disk x left))

pub returns-in_err-next-clause-any_moment : goal.returns-in_err-next-clause-any_moment
returns-in_err-next-clause-any_moment g c =
    let D = g.D.Disk in
    let m = c.args.self.now in
    let disk = c.args.disk.now in
    started D.moment D.left_since disk _ (λ x left. still_old m (D.may_leave disk) c.requires.kept (has_with m (raised m.state)) x (g.met.D.Disk.only_now disk x left))
