use Rattle.std.proofs.Common.{◌∙◌, sym, ap}
use Rattle.std.proofs.lemmas.Map.Lookups.{exact_signed}
use Rattle.std.specs.Cmp.{int_cmp_total}
use Rattle.committed_log.proofs.FamilySteps.{value_exact}
use Rattle.committed_log.proofs.Sorted.{value_cmp_total}
use Rattle.region_state.proofs.Joining.{turned_union}
use Rattle.region_state.proofs.union.unite.Goals as goal

pub returns-clause-values : goal.returns-clause-values
returns-clause-values c =
    ap (λ m. m.entries) c.swap.ensures.x_after ∙ c.in-Ok.ensures.values
    ∙ sym (turned_union value_cmp_total value_exact c.args.values.now.entries c.args.more_values.now.entries c.len-values_len.ensures.ordered c.len-more_values_len.ensures.ordered c.requires.values)

pub returns-clause-locks : goal.returns-clause-locks
returns-clause-locks c =
    ap (λ m. m.entries) c.swap-2.ensures.x_after ∙ c.in-Ok.ensures.locks
    ∙ sym (turned_union int_cmp_total exact_signed c.args.locks.now.entries c.args.more_locks.now.entries c.len-locks_len.ensures.ordered c.len-more_locks_len.ensures.ordered c.requires.locks)
