use Rattle.raft_apply.proofs.Placing.{writable_at}
use Rattle.raft_apply.proofs.parsing.parse.Goals as goal

pub command_of-requires-clause-form : goal.command_of-requires-clause-form
command_of-requires-clause-form c = (writable_at c.args.logs.now.entries c.args.position c.entry-entry.result.now c.entry-entry.ensures c.told_lawful.ensures.writable).form.body
