use Rattle.manifest.proofs.Roots.{root_refused, root_named}
use Rattle.manifest.proofs.reading.open_root.Goals as goal

pub returns-in-Ok : goal.returns-in-Ok
returns-in-Ok c = root_named c.args.bytes.now c.in-Ok.name c.in-Ok.ensures.name c.in-Ok.ensures.place

pub returns-in-Err : goal.returns-in-Err
returns-in-Err c = rw c.refusal.ensures (root_refused c.args.bytes.now c.in-Err.fault c.in-Err.ensures.name)
