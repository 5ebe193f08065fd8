use Rattle.std.proofs.Common.{cond, not, Some, None, ap, sym, ◌∙◌}
use Rattle.std.specs.Option.{option_or}
use Rattle.std.specs.Prelude.{◌&&◌}
use Rattle.committed_log.specs.Applied.{acts_at}
use Rattle.row_store.specs.Tests.{in_set}
use Rattle.row_store.proofs.Finding.{found_more}
use Rattle.row_store.proofs.positions.next.Goals as goal

pub loop-p-preserved : goal.loop-p-preserved
loop-p-preserved c =
    c.first_of-found.ensures ∙ ap (λ t. option_or c.loop-p.found (cond t (Some c.loop-p.p) None)) c.acts_outside.ensures
    ∙ sym (found_more (λ p. not (in_set c.args.set.now p) && acts_at c.args.log.now c.args.r p) c.loop-p.p c.loop-p.found c.loop-p.invariant)
