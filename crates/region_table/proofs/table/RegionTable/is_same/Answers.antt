use Rattle.std.proofs.Common.{◌≡◌, ◌∙◌, sym, subst, true≢false}
use Rattle.region_table.specs.Counting.{applied_in}
use Rattle.region_table.specs.Table.{IsTableAt, Table}
use Rattle.region_table.proofs.Agreeing.{same_regions, same_counts, same_nexts}
use Rattle.region_table.proofs.Sets.{of_table}
use Rattle.region_table.proofs.table.RegionTable.is_same.Goals as goal

pub returns-then-not-same_regions : goal.returns-then-not-same_regions
returns-then-not-same_regions c =
    let log = c.args.logs.now in
    let A = applied_in log c.args.self.now.regions in
    let a : Table = record { regions = c.self.inside.regions.entries; counted = c.self.inside.counted; nexts = c.self.inside.nexts.entries } in
    let b : Table = record { regions = c.anew.inside.regions.entries; counted = c.anew.inside.counted; nexts = c.anew.inside.nexts.entries } in
    let at_b = subst (IsTableAt log A) (sym c.anew.view_is) c.requires in (
      λ t. absurd (true≢false (sym t)),
      λ is. (let at_a = subst (IsTableAt log A) (sym c.self.view_is) is in
          absurd (true≢false (sym (c.same_regions.ensures.1 (same_regions log A a.regions b.regions (of_table log A a at_a) (of_table log A b at_b) c.len-own.ensures.ordered c.len-other.ensures.ordered)) ∙ c.if-not-same_regions.true))),
    )

pub returns-then-not-same_counted : goal.returns-then-not-same_counted
returns-then-not-same_counted c =
    let log = c.args.logs.now in
    let A = applied_in log c.args.self.now.regions in
    let a : Table = record { regions = c.self.inside.regions.entries; counted = c.self.inside.counted; nexts = c.self.inside.nexts.entries } in
    let b : Table = record { regions = c.anew.inside.regions.entries; counted = c.anew.inside.counted; nexts = c.anew.inside.nexts.entries } in
    let at_b = subst (IsTableAt log A) (sym c.anew.view_is) c.requires in (
      λ t. absurd (true≢false (sym t)),
      λ is. (let at_a = subst (IsTableAt log A) (sym c.self.view_is) is in
          absurd (true≢false (sym (c.same_counted.ensures.1 (same_counts log A a.counted b.counted at_a.counted at_b.counted)) ∙ c.if-not-same_counted.true))),
    )

pub returns : goal.returns
returns c =
    let log = c.args.logs.now in
    let A = applied_in log c.args.self.now.regions in
    let a : Table = record { regions = c.self.inside.regions.entries; counted = c.self.inside.counted; nexts = c.self.inside.nexts.entries } in
    let b : Table = record { regions = c.anew.inside.regions.entries; counted = c.anew.inside.counted; nexts = c.anew.inside.nexts.entries } in
    let at_b = subst (IsTableAt log A) (sym c.anew.view_is) c.requires in
    let regions : a.regions ≡ b.regions = c.same_regions.ensures.0 c.if-not-same_regions.false in
    let counted : a.counted ≡ b.counted = c.same_counted.ensures.0 c.if-not-same_counted.false in (
      λ t. (let nexts : a.nexts ≡ b.nexts = c.same_positions.ensures.0 t in
          subst (IsTableAt log A) c.self.view_is (subst (IsTableAt log A) (λ i. record { regions = sym regions i; counted = sym counted i; nexts = sym nexts i }) at_b)),
      λ is. (let at_a = subst (IsTableAt log A) (sym c.self.view_is) is in
          c.same_positions.ensures.1 (same_nexts log A a.nexts b.nexts at_a.nexts at_b.nexts c.len-nexts.ensures.ordered c.len-others.ensures.ordered)),
    )
