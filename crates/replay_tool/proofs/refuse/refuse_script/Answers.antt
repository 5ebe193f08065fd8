use Rattle.replay_tool.proofs.Runs.{script_fault_ends}
use Rattle.replay_tool.proofs.refuse.refuse_script.Goals as goal

pub returns-in-Failed : goal.returns-in-Failed
returns-in-Failed g c = script_fault_ends c.args.error.now _ c.refuse.result c.in-Failed.is c.refuse.ensures.written c.refuse.ensures.status
