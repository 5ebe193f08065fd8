use Rattle.committed_log.specs.Store.{value_cmp}
use Rattle.committed_log.proofs.Maps.{Rise-filter}
use Rattle.committed_log.proofs.clearing.clear_range.Goals as goal

pub returns-clause-holds : goal.returns-clause-holds
returns-clause-holds g c = record { values = c.clear_values.ensures; last = c.clear_last.ensures; ordered = Rise-filter value_cmp _ g.store.values c.requires.0.ordered }
