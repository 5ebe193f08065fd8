use Rattle.committed_log.proofs.ReadLaws.{rows_are, rows_at_end_are}
use Rattle.committed_log.proofs.laws.reads.rows_are_by_the_rule.Goals as goal

pub returns-clause-read : goal.returns-clause-read
returns-clause-read c = rows_are

pub returns-clause-at_end : goal.returns-clause-at_end
returns-clause-at_end c = rows_at_end_are
