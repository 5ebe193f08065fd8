use Rattle.std.proofs.Common.{SFits, w64, rules, subst}
use Rattle.std.proofs.lemmas.Int.{to_z-of_z}
use Rattle.std.proofs.lemmas.List.{take_all}
use Rattle.committed_log.specs.Store.{after_ops}
use Rattle.log_rows.specs.Folds.{Holds}
use Rattle.log_rows.proofs.fold.Fold.ops.Goals as goal

pub returns-clause-holds : goal.returns-clause-holds
returns-clause-holds c = λ p s holds.
    let fits : SFits w64 c.args.table = search rules in
    let so_far = simp to_z-of_z at c.loop-op.invariant.holds in
    subst (λ ops. Holds (after_ops c.args.table c.args.range p s ops) c.args.self.now.ts c.loop-op.self.values c.loop-op.self.handles) (take_all c.loop-op.op-index c.args.ops.now c.loop-op-test.false) (so_far p s holds)
