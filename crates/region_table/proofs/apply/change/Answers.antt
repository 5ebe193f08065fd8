use Rattle.std.specs.Cmp.{nat_cmp_total}
use Rattle.std.proofs.lemmas.Map.Lookups.{exact_unsigned}
use Rattle.region_state.proofs.Folds.{same_lists}
use Rattle.region_table.proofs.apply.change.Goals as goal

pub returns-in-Err-clause-err : goal.returns-in-Err-clause-err
returns-in-Err-clause-err c = same_lists nat_cmp_total exact_unsigned c.step.new.regions.entries c.args.regions.now.entries c.len-after.ensures.ordered c.len-before.ensures.ordered c.in-Err.ensures.err
