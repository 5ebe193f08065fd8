use Rattle.std.proofs.Common.{cond, Some, None, ap, sym, ◌∙◌}
use Rattle.std.specs.Option.{option_or}
use Rattle.std.specs.Prelude.{nat_lt, ◌&&◌}
use Rattle.committed_log.specs.Applied.{acts_at}
use Rattle.row_store.proofs.Finding.{found_more}
use Rattle.row_store.proofs.positions.acting_after.Goals as goal

pub loop-q-preserved : goal.loop-q-preserved
loop-q-preserved c =
    c.first_of-found.ensures ∙ ap (λ t. option_or c.loop-q.found (cond t (Some c.loop-q.q) None)) c.acts_behind.ensures
    ∙ sym (found_more (λ q. nat_lt c.args.p q && acts_at c.args.log.now c.args.r q) c.loop-q.q c.loop-q.found c.loop-q.invariant)
