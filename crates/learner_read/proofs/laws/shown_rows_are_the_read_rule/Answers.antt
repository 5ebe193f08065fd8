use Rattle.learner_read.proofs.Newest.{once, shows}
use Rattle.learner_read.proofs.laws.shown_rows_are_the_read_rule.Goals as goal

pub returns-clause-shows : goal.returns-clause-shows
returns-clause-shows c = λ ts versions rise h. shows ts versions rise h

pub returns-clause-once : goal.returns-clause-once
returns-clause-once c = λ ts versions rise. once ts versions rise
