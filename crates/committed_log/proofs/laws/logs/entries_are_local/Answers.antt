use Rattle.committed_log.proofs.Acting.{left_alone}
use Rattle.committed_log.proofs.Local.{same_within}
use Rattle.committed_log.proofs.Touching.{same_untouched}
use Rattle.committed_log.proofs.laws.logs.entries_are_local.Goals as goal

pub returns-clause-handle : goal.returns-clause-handle
returns-clause-handle c = λ log lawful h p out. same_untouched log h p lawful out

pub returns-clause-state : goal.returns-clause-state
returns-clause-state c = left_alone

pub returns-clause-families : goal.returns-clause-families
returns-clause-families c = λ log lawful r p range there apart. same_within log lawful p r range there apart
