use Rattle.region_table.proofs.Empty.{empty_is}
use Rattle.region_table.proofs.laws.empty_tables_agree.Goals as goal

pub returns : goal.returns
returns c = empty_is
