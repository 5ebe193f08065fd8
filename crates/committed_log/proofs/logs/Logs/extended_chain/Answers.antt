use Rattle.std.proofs.Common.{◌-◌, sym, subst, drop}
use Rattle.committed_log.specs.Lawful.{AllWritable}
use Rattle.committed_log.proofs.Writable.{writable_take, writable_drop}
use Rattle.committed_log.proofs.logs.Logs.extended_chain.Goals as goal

pub extended_over-requires : goal.extended_over-requires
extended_over-requires c = writable_take (c.args.n - c.args.m) (drop c.args.m c.deref.result.now) (writable_drop c.args.m c.deref.result.now (subst AllWritable (sym c.deref.ensures.value) c.self.invariant.lawful.writable))
