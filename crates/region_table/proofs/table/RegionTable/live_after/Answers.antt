use Rattle.std.proofs.Common.{sym, subst}
use Rattle.region_table.specs.Live.{IsLeastThere}
use Rattle.region_table.specs.Table.{Table}
use Rattle.region_table.proofs.Least.{is_least}
use Rattle.region_table.proofs.table.RegionTable.live_after.Goals as goal

pub returns-clause-least : goal.returns-clause-least
returns-clause-least c =
    let told = subst (IsLeastThere c.self.inside.regions.entries c.args.region) (sym c.first_above.ensures) (is_least c.args.region c.self.inside.regions.entries c.len-regions.ensures.ordered) in
    subst (λ (t : Table). IsLeastThere t.regions c.args.region c.first_above.result) c.self.view_is told
