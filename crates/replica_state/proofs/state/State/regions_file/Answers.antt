use Rattle.std.proofs.Common.{rules, ◌≡◌, ◌∙◌, ap, subst}
use Rattle.std.specs.Arc.{arc_value}
use Rattle.committed_log.specs.Lawful.{IsLawful}
use Rattle.region_file.specs.Regions.{regions_of}
use Rattle.region_file.specs.Spelling as spelling
use Rattle.region_table.specs.Counting.{applied_in}
use Rattle.region_table.specs.Opening.{IsFileOf}
use Rattle.region_table.specs.Table.{AreRegionsAt}
use Rattle.replica_state.specs.Core.{Core, full}
use Rattle.replica_state.proofs.state.State.regions_file.Goals as goal

pub returns-in-Ok : goal.returns-in-Ok
returns-in-Ok g c =
    let log = arc_value c.self.inside.logs in
    let regions = c.self.inside.table.regions in
    let A = applied_in log regions in
    let lawful : IsLawful log = search rules in
    let table = c.self.invariant.sets.table in
    let at : AreRegionsAt log A regions = record { closed = table.closed; regions = table.regions } in
    let bytes : c.write_file.new.into.items ≡ spelling.file regions = search rules in
    let file : IsFileOf log A c.write_file.new.into.items = (regions, ap regions_of bytes ∙ c.written_tables_are_read_again.ensures log lawful A regions at c.in-Ok.ensures.fits, at) in
    subst (λ (s : Core _). IsFileOf s.log (full s) c.write_file.new.into.items) c.self.view_is file
