use Rattle.std.proofs.Common.{false, sym, subst}
use Rattle.region_table.specs.Table.{IsTableAt}
use Rattle.opened_store.proofs.regions.table_of.Goals as goal

pub returns-in-None-clause-agrees : goal.returns-in-None-clause-agrees
returns-in-None-clause-agrees g c = ((λ p. false), subst (IsTableAt c.args.logs.now (λ p. false)) (sym c.empty.ensures) (c.empty_tables_agree.ensures c.args.logs.now))
