use Rattle.std.proofs.Common.{rules, ◌≡◌, ◌<◌, length, cond, Some, ap, subst, sym, ◌∙◌}
use Rattle.std.specs.Prelude.{◌&&◌, IfSome}
use Rattle.committed_log.specs.Applied.{acts_at}
use Rattle.row_store.specs.Tests.{in_set}
use Rattle.row_store.proofs.Finding.{last_more, last_below}
use Rattle.row_store.proofs.positions.last_acting.Goals as goal

pub loop-p-preserved : goal.loop-p-preserved
loop-p-preserved c =
    c.last_of-found.ensures ∙ ap (λ t. cond t (Some c.loop-p.p) c.loop-p.found) c.acts_in.ensures
    ∙ sym (last_more (λ p. in_set c.args.set.now p && acts_at c.args.log.now c.args.r p) c.loop-p.p c.loop-p.found c.loop-p.invariant)

pub returns-clause-within : goal.returns-clause-within
returns-clause-within c =
    let done : c.loop-p.p ≡ length c.args.log.now.entries = search rules in
    subst (λ n. IfSome c.loop-p.found (λ p. p < n)) done (last_below (λ p. in_set c.args.set.now p && acts_at c.args.log.now c.args.r p) c.loop-p.p c.loop-p.found c.loop-p.invariant)
