use Rattle.std.proofs.Common.{ap, w64, SFits, rules}
use Rattle.std.proofs.lemmas.Int.{to_z-of_z}
use Rattle.committed_log.proofs.StoreSteps.{holds_lock, is_of_lock}
use Rattle.committed_log.proofs.admit_ops.admit_change.Goals as goal

pub returns-in-Ok-clause-holds : goal.returns-in-Ok-clause-holds
returns-in-Ok-clause-holds g c = let fits : SFits w64 c.in-Value.handle = search rules in rw c.in-Value.is (simp (to_z-of_z w64 _ fits) at c.in-Ok.ensures.holds)

pub returns-in-Ok-admit_drop-clause-holds : goal.returns-in-Ok-admit_drop-clause-holds
returns-in-Ok-admit_drop-clause-holds g c = let fits : SFits w64 c.in-DropValue.handle = search rules in rw c.in-DropValue.is (simp (to_z-of_z w64 _ fits) at c.in-Ok-admit_drop.ensures.holds)

pub returns-in-Lock-clause-holds : goal.returns-in-Lock-clause-holds
returns-in-Lock-clause-holds g c = holds_lock c.args.families.now c.args.families.now g.from.store c.requires.0 c.args.change (ap is_of_lock c.in-Lock.is)

pub returns-in-Unlock-clause-holds : goal.returns-in-Unlock-clause-holds
returns-in-Unlock-clause-holds g c = holds_lock c.args.families.now c.args.families.now g.from.store c.requires.0 c.args.change (ap is_of_lock c.in-Unlock.is)
