use Rattle.std.proofs.Common.{SFits, w64, rules, subst, sym}
use Rattle.std.proofs.lemmas.Int.{to_z-of_z}
use Rattle.committed_log.specs.Store.{after_ops, cleared}
use Rattle.log_rows.specs.Folds.{Holds}
use Rattle.log_rows.proofs.Knowing.{ok_so}
use Rattle.log_rows.proofs.fold.Fold.install.Goals as goal

pub returns-clause-holds : goal.returns-clause-holds
returns-clause-holds c =
    let table : SFits w64 c.args.table = search rules in
    let range = c.args.range in
    let ops = simp to_z-of_z at c.ops.ensures.holds in
    ok_so c.ops.result (λ run p s holds.
    subst (λ ts. Holds (after_ops c.args.table range p (cleared range s) c.args.ops.now) ts c.ops.new.self.values c.ops.new.self.handles) c.clear.ensures.ts
    (run p (cleared range s) (subst (λ ts. Holds (cleared range s) ts c.clear.new.self.values c.clear.new.self.handles) (sym c.clear.ensures.ts) (c.clear.ensures.holds s holds)))) ops
