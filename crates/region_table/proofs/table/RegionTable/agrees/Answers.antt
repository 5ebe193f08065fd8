use Rattle.std.proofs.Common.{sym, subst, ℕ, Bool}
use Rattle.committed_log.specs.Applied.{IsClosed}
use Rattle.region_table.specs.Table.{IsTableAt, Table}
use Rattle.region_table.proofs.Sets.{of_table, set_is}
use Rattle.region_table.proofs.table.RegionTable.agrees.Goals as goal

pub returns-in-Ok-Some-clause-no : goal.returns-in-Ok-Some-clause-no
returns-in-Ok-Some-clause-no c = λ agrees.
    let log = c.args.logs.now in
    let t : Table = c.args.self.now in
    c.is_same.ensures.1 (subst (λ (B : ℕ → Bool). IsTableAt log B t) (sym (set_is log c.told_lawful.ensures agrees.0 t.regions (of_table log agrees.0 t agrees.1))) agrees.1)

pub returns-in-Ok-None-clause-no : goal.returns-in-Ok-None-clause-no
returns-in-Ok-None-clause-no c = λ agrees.
    let log = c.args.logs.now in
    let t : Table = record { regions = c.self.inside.regions.entries; counted = c.self.inside.counted; nexts = c.self.inside.nexts.entries } in
    let at = subst (IsTableAt log agrees.0) (sym c.self.view_is) agrees.1 in
    absurd (c.in-Ok-None.ensures.none c.in-Ok-None.field-0-is (subst (IsClosed log) (sym (set_is log c.told_lawful.ensures agrees.0 t.regions (of_table log agrees.0 t at))) at.closed))
