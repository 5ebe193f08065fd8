use Rattle.replay_tool.proofs.Runs.{limit_ends}
use Rattle.replay_tool.proofs.refuse.refuse_log.Goals as goal

pub returns-in-Limit : goal.returns-in-Limit
returns-in-Limit g c = limit_ends c.args.error _ c.refuse.result c.in-Limit.is c.refuse.ensures.written c.refuse.ensures.status
