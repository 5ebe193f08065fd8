use Rattle.std.proofs.Common.{SFits, w64, rules, subst, ap, ◌∙◌}
use Rattle.std.proofs.lemmas.Int.{to_z-of_z}
use Rattle.committed_log.specs.Regions.{region, range_of}
use Rattle.committed_log.specs.Store.{families_after}
use Rattle.log_rows.specs.Folds.{Holds}
use Rattle.log_rows.proofs.Knowing.{ok_so, holds_regions}
use Rattle.log_rows.proofs.rows.step.Goals as goal

pub returns-clause-holds : goal.returns-clause-holds
returns-clause-holds c =
    let fits : SFits w64 c.args.table = search rules in
    let entry = c.args.entry.now in
    let done = simp to_z-of_z at c.in_default.ensures.holds in
    let range = c.range_of_region-range.ensures ∙ ap range_of c.region_of.ensures in
    ok_so c.step_regions.result
    (λ stepped p s same holds.
    holds_regions (families_after c.args.table p (range_of (region s.regions entry.region)) entry.body s) _ c.args.fold.now.ts c.entry.new.self.values c.entry.new.self.handles
    (subst (λ there. Holds (families_after c.args.table p there entry.body s) c.args.fold.now.ts c.entry.new.self.values c.entry.new.self.handles) (range ∙ ap (λ rs. range_of (region rs entry.region)) same) (done p s holds)))
    c.step_regions.ensures.ok
