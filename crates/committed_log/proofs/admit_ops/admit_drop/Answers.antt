use Rattle.std.proofs.Common.{None, sym, w64}
use Rattle.std.proofs.lemmas.Int.{to_z-of_z}
use Rattle.committed_log.proofs.FamilySteps.{returns_value}
use Rattle.committed_log.proofs.StoreSteps.{holds_taken, holds_absent}
use Rattle.committed_log.proofs.admit_ops.admit_drop.Goals as goal

pub returns-in-None-clause-holds : goal.returns-in-None-clause-holds
returns-in-None-clause-holds g c = holds_absent c.args.families.now c.args.families.now g.from.store c.requires.0 c.args.handle c.args.start (sym (simp (to_z-of_z w64 _ c.ranges.handle) at c.in-None.ensures))

pub returns-in-Ok-clause-holds : goal.returns-in-Ok-clause-holds
returns-in-Ok-clause-holds g c = holds_taken c.args.families.now c.put_value.new.families g.from.store c.requires.0 c.args.handle c.args.start (simp (to_z-of_z w64 _ c.ranges.handle) at c.in-Ok.ensures.ok)

pub returns-in-Ok-clause-returns : goal.returns-in-Ok-clause-returns
returns-in-Ok-clause-returns g c = returns_value c.args.families.now c.put_value.new.families g.from.before (c.args.handle, c.args.start) None (simp (to_z-of_z w64 _ c.ranges.handle) at c.in-Ok.ensures.ok) c.requires.1
