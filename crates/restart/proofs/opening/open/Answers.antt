use Rattle.std.proofs.Common.{rules, ◌≡◌, subst}
use Rattle.std.specs.Arc.{arc_value}
use Rattle.committed_log.specs.Log.{Log}
use Rattle.store_image.specs.Images.{StandsFor}
use Rattle.restart.specs.Ready.{StandsAsBefore}
use Rattle.restart.proofs.opening.open.Goals as goal

pub returns-in-Ok-clause-set : goal.returns-in-Ok-clause-set
returns-in-Ok-clause-set g c = λ tells A safe stood.
    let log : c.deref.result.now ≡ arc_value c.args.logs = search rules in
    c.made.ensures.set tells A safe (subst (λ (l : Log). StandsAsBefore g.D.Disk l c.args.disk c.read.new.disk) log (c.in-Ok.ensures.stands tells) A safe stood)
