use Rattle.committed_log.proofs.RegionTables.{table_after}
use Rattle.committed_log.proofs.laws.sets.tables_go_on.Goals as goal

pub returns : goal.returns
returns c = table_after
