use Rattle.std.proofs.Common.{◌∙◌}
use Rattle.manifest.proofs.Making.{written_short}
use Rattle.manifest.proofs.ready.shut.Goals as goal

pub returns-in-Ok-clause-durable : goal.returns-in-Ok-clause-durable
returns-in-Ok-clause-durable g c = λ x left.
    let D = g.D.Disk in
    let tells = g.met.D.Disk.told c.sync.new.self x left in
    c.in-Ok.ensures.durable x left ∙ written_short (D.files c.args.disk.now) (D.files c.write_at.new.self) (c.requires.short tells) (c.in_ok-write_at.ensures.written tells)
