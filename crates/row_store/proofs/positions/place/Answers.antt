use Rattle.std.proofs.Common.{rules, ◌≡◌, ◌<◌, length, cond, Some, None, ap, subst, sym, ◌∙◌}
use Rattle.std.specs.Option.{option_or}
use Rattle.std.specs.Prelude.{IfSome}
use Rattle.committed_log.specs.Applied.{has_index, left_at}
use Rattle.row_store.proofs.Finding.{found_more, found_below}
use Rattle.row_store.proofs.positions.place.Goals as goal

pub loop-p-preserved : goal.loop-p-preserved
loop-p-preserved c =
    c.first_of-found.ensures ∙ ap (λ t. option_or c.loop-p.found (cond t (Some c.loop-p.p) None)) (c.has_index.ensures ∙ ap (has_index c.args.index) c.in-Ok.ensures)
    ∙ sym (found_more (λ p. has_index c.args.index (left_at c.args.log.now c.args.r p)) c.loop-p.p c.loop-p.found c.loop-p.invariant)

pub returns-clause-within : goal.returns-clause-within
returns-clause-within c =
    let done : c.loop-p.p ≡ length c.args.log.now.entries = search rules in
    subst (λ n. IfSome c.loop-p.found (λ p. p < n)) done (found_below (λ p. has_index c.args.index (left_at c.args.log.now c.args.r p)) c.loop-p.p c.loop-p.found c.loop-p.invariant)
