use Rattle.std.proofs.Common.{length}
use Rattle.region_table.proofs.Counts.{one_more}
use Rattle.region_table.proofs.laws.one_more_counts_one_more.Goals as goal

pub returns : goal.returns
returns c = λ log A p free within. one_more A p free (length log.entries) within
