use Rattle.good_state.proofs.Checking.{checked_follows, checked_good, checked_named, checked_set}
use Rattle.good_state.proofs.laws.checkpoints_keep_good.Goals as goal

pub returns-clause-follows : goal.returns-clause-follows
returns-clause-follows g c = λ s next high generation is above no_lower no_younger. checked_follows s is next high generation above no_lower no_younger

pub returns-clause-good : goal.returns-clause-good
returns-clause-good g c = λ bytes s next high generation is lawful reached no_lower within good. checked_good s is next high generation bytes lawful reached no_lower within good

pub returns-clause-committed : goal.returns-clause-committed
returns-clause-committed g c = λ s next high generation is. checked_set s is next high generation

pub returns-clause-named : goal.returns-clause-named
returns-clause-named g c = λ bytes s all j k. checked_named bytes s all j k
