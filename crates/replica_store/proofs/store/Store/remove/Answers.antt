use Rattle.std.proofs.Common.{inr, refl, subst}
use Rattle.flash_io.specs.Image.{Image}
use Rattle.flash_io.specs.Crash.{LeavesOnly, Removed}
use Rattle.flash_io.proofs.Moments.{same_but_refl}
use Rattle.replica_store.proofs.OneCall.{one_call}
use Rattle.replica_store.proofs.store.Store.remove.Goals as goal

pub returns-clause-any_moment : goal.returns-clause-any_moment
returns-clause-any_moment g c =
    let d = g.D.Disk in
    let old = c.self.inside.disk in
    subst (λ s. LeavesOnly d.moment d.left_since s.disk c.remove.new.self (λ x. (from : Image) × d.may_leave s.disk from × Removed c.args.file from x)) c.self.view_is
    (one_call d.moment d.left_since d.may_leave old c.remove.new.self
    (λ x. (from : Image) × d.may_leave old from × Removed c.args.file from x)
    (g.met.D.Disk.only_now old) c.remove.ensures.time (λ x left. (x, left, (same_but_refl c.args.file x, inr refl))) c.remove.ensures.crash)
