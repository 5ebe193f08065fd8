use Rattle.std.specs.Prelude.{[]}
use Rattle.good_state.proofs.Applying.{applied_committed, applied_follows, applied_good, applied_named}
use Rattle.good_state.proofs.laws.applies_keep_good.Goals as goal

pub returns-clause-follows : goal.returns-clause-follows
returns-clause-follows g c = λ old new p is lawful it. applied_follows (λ _. []) old new p is lawful it

pub returns-clause-good : goal.returns-clause-good
returns-clause-good g c = λ bytes old new p is lawful it. applied_good bytes old new p is lawful it

pub returns-clause-committed : goal.returns-clause-committed
returns-clause-committed g c = λ old new p is lawful it. applied_committed (λ _. []) old new p is lawful it

pub returns-clause-named : goal.returns-clause-named
returns-clause-named g c = λ bytes old new p is lawful it. applied_named bytes old new p is lawful it
