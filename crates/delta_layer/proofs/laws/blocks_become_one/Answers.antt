use Rattle.delta_layer.proofs.Blocks.{can_compact, can_flush}
use Rattle.delta_layer.proofs.laws.blocks_become_one.Goals as goal

pub returns-clause-flush : goal.returns-clause-flush
returns-clause-flush c = can_flush

pub returns-clause-compact : goal.returns-clause-compact
returns-clause-compact c = can_compact
