use Rattle.std.proofs.Common.{sym, subst}
use Rattle.region_table.specs.Table.{IsTableAt}
use Rattle.region_table.proofs.table.RegionTable.count.Goals as goal

pub returns : goal.returns
returns c = λ A is. (subst (IsTableAt c.args.logs.now A) (sym c.self.view_is) is).counted.count
