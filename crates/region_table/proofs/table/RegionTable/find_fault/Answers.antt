use Rattle.std.proofs.Common.{◌∙◌, sym, subst}
use Rattle.region_table.specs.Table.{IsTableAt, Table}
use Rattle.region_table.proofs.Behind.{found}
use Rattle.region_table.proofs.Sets.{of_table}
use Rattle.region_table.proofs.table.RegionTable.find_fault.Goals as goal

pub returns : goal.returns
returns c = λ A is e here.
    let log = c.args.logs.now in
    let t : Table = record { regions = c.self.inside.regions.entries; counted = c.self.inside.counted; nexts = c.self.inside.nexts.entries } in
    let at = subst (IsTableAt log A) (sym c.self.view_is) is in
    c.fault_by.ensures e here ∙ found log c.told_lawful.ensures A t.regions (of_table log A t at) c.args.position e here t.counted at.counted
