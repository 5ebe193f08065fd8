use Rattle.replay_tool.proofs.Clauses.{words_clause, answers_clause, refused_clause, fault_clause, answered_clause, whole_clause, complete_clause}
use Rattle.replay_tool.proofs.run.replay.Goals as goal

pub returns-clause-words : goal.returns-clause-words
returns-clause-words g c = rw c.code.ensures (words_clause c.args.words.now _ c.run.result c.run.ensures.ends)

pub returns-clause-answers : goal.returns-clause-answers
returns-clause-answers g c = rw c.code.ensures (answers_clause c.args.words.now _ c.run.result c.run.ensures.ends)

pub returns-clause-refused : goal.returns-clause-refused
returns-clause-refused g c = rw c.code.ensures (refused_clause c.args.words.now _ c.run.result c.run.ensures.ends)

pub returns-clause-fault : goal.returns-clause-fault
returns-clause-fault g c = rw c.code.ensures (fault_clause c.args.words.now _ c.run.result c.run.ensures.ends)

pub returns-clause-answered : goal.returns-clause-answered
returns-clause-answered g c = rw c.code.ensures (answered_clause c.args.words.now _ c.run.result c.run.ensures.ends)

pub returns-clause-read_whole : goal.returns-clause-read_whole
returns-clause-read_whole g c = rw c.code.ensures (whole_clause c.args.words.now _ c.run.result c.run.ensures.ends)

pub returns-clause-complete : goal.returns-clause-complete
returns-clause-complete g c = rw c.code.ensures (complete_clause c.args.words.now _ c.run.result c.run.ensures.ends)
