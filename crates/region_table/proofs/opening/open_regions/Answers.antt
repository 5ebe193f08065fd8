use Rattle.std.proofs.Common.{◌≡◌, ◌∙◌, sym, subst, ℕ, Bool, true≢false, IfSome}
use Rattle.committed_log.specs.Applied.{IsClosed}
use Rattle.region_table.specs.Counting.{applied_in}
use Rattle.region_table.specs.Table.{AreRegionsAt, IsTableAt, Table}
use Rattle.region_table.proofs.Agreeing.{same_regions}
use Rattle.region_table.proofs.Sets.{of_table, set_is}
use Rattle.region_table.proofs.opening.open_regions.Goals as goal

pub returns-then-not-has_regions-clause-err : goal.returns-then-not-has_regions-clause-err
returns-then-not-has_regions-clause-err c = λ A is.
    let log = c.args.logs.now in
    let regions = c.args.regions.now.entries in
    let t : Table = c.in-Ok-Some.anew in
    let own = subst (λ (B : ℕ → Bool). AreRegionsAt log B regions) (sym (set_is log c.told_lawful.ensures A regions is)) is in
    absurd (true≢false (sym (c.has_regions.ensures.is.1 (same_regions log (applied_in log regions) regions t.regions own (of_table log (applied_in log regions) t (subst (λ o. IfSome o (IsTableAt c.args.logs.now (applied_in c.args.logs.now c.args.regions.now.entries))) c.in-Ok-Some.field-0-is c.in-Ok-Some.ensures.some)) c.has_regions.ensures.others c.has_regions.ensures.own)) ∙ c.if-not-has_regions.true))

pub returns-else-not-has_regions-clause-ok : goal.returns-else-not-has_regions-clause-ok
returns-else-not-has_regions-clause-ok c = (sym (c.has_regions.ensures.is.0 c.if-not-has_regions.false), (applied_in c.args.logs.now c.args.regions.now.entries, (subst (λ o. IfSome o (IsTableAt c.args.logs.now (applied_in c.args.logs.now c.args.regions.now.entries))) c.in-Ok-Some.field-0-is c.in-Ok-Some.ensures.some)))

pub returns-in-Ok-None-clause-err : goal.returns-in-Ok-None-clause-err
returns-in-Ok-None-clause-err c = λ A is.
    let log = c.args.logs.now in
    absurd (c.in-Ok-None.ensures.none c.in-Ok-None.field-0-is (subst (IsClosed log) (sym (set_is log c.told_lawful.ensures A c.args.regions.now.entries is)) is.closed))
