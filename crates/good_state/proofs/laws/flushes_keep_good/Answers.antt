use Rattle.good_state.proofs.Flushing.{flush_good, flush_follows}
use Rattle.good_state.proofs.laws.flushes_keep_good.Goals as goal

pub returns-clause-follows : goal.returns-clause-follows
returns-clause-follows g c = λ s p high is no_lower. flush_follows s is p high no_lower

pub returns-clause-good : goal.returns-clause-good
returns-clause-good g c = λ bytes s p high is lawful reached no_lower within good. flush_good bytes s is lawful p high reached no_lower within good
