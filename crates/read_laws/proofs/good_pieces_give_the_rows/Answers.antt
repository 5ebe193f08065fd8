use Rattle.std.proofs.Common.{◌∙◌, true}
use Rattle.committed_log.specs.Reads.{rows}
use Rattle.read_laws.proofs.Filtered.{all_pass}
use Rattle.read_laws.proofs.Passing.{rows_read}
use Rattle.read_laws.proofs.good_pieces_give_the_rows.Goals as goal

pub returns-clause-passing : goal.returns-clause-passing
returns-clause-passing g c = λ bytes log lawful A closed m safe cuts ts clip pieces tell passes found read. rows_read bytes log lawful A closed m safe cuts ts clip pieces tell passes found read

pub returns-clause-all : goal.returns-clause-all
returns-clause-all g c = λ bytes log lawful A closed m safe cuts ts clip pieces tell found read. rows_read bytes log lawful A closed m safe cuts ts clip pieces tell (λ _. true) found read ∙ all_pass (rows log cuts ts clip)
