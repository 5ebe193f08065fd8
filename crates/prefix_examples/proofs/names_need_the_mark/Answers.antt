use Rattle.prefix_examples.proofs.Computed.{flushes, ranges}
use Rattle.prefix_examples.proofs.names_need_the_mark.Goals as goal

pub returns-clause-puts : goal.returns-clause-puts
returns-clause-puts c = flushes

pub returns-clause-clears : goal.returns-clause-clears
returns-clause-clears c = ranges
