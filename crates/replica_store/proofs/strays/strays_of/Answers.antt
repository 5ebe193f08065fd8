use Rattle.replica_store.specs.Naming.{is_known}
use Rattle.replica_store.proofs.strays.strays_of.Goals as goal

pub returns : goal.returns
returns c = c.keep_others.ensures (is_known c.args.own c.args.state.now c.args.retired.now) c.in_ok-known.ensures
