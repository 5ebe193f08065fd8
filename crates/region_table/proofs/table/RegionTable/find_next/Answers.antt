use Rattle.std.proofs.Common.{◌∙◌, sym, ap, subst, ◌<◌, None, Some, false, length, arith}
use Rattle.region_table.specs.Applying.{is_in_part}
use Rattle.region_table.specs.Table.{IsTableAt, Table}
use Rattle.region_table.proofs.Nexts.{none_next, first_next, some_next, else_next}
use Rattle.region_table.proofs.table.RegionTable.find_next.Goals as goal
use Rattle.region_table.proofs.table.RegionTable.find_next.Goals.{then-first-below-via-then-first-below, then-first-below-via-else-first-below+then-first-len}

pub returns-then-first-below : goal.returns-then-first-below
returns-then-first-below c = λ A is.
    let t : Table = record { regions = c.self.inside.regions.entries; counted = c.self.inside.counted; nexts = c.self.inside.nexts.entries } in
    let at = subst (IsTableAt c.args.logs.now A) (sym c.self.view_is) is in
    none_next c.args.logs.now c.told_lawful.ensures A t at c.args.part c.args.parts c.args.below (λ both. elim c.then-first-below.branch as (λ _. ⊥) [
      | then-first-below-via-then-first-below w ↦ (let h = w.if-first-below.true in let b = both.0 in absurd (omega (arith, h, b)))
      | then-first-below-via-else-first-below+then-first-len w ↦ (let h = w.if-first-len.true in let l = w.len.ensures in let b = both.1 in absurd (omega (arith, h, l, b)))
    ])

pub returns-then-is_in_part : goal.returns-then-is_in_part
returns-then-is_in_part c = λ A is.
    let t : Table = record { regions = c.self.inside.regions.entries; counted = c.self.inside.counted; nexts = c.self.inside.nexts.entries } in
    let at = subst (IsTableAt c.args.logs.now A) (sym c.self.view_is) is in
    let low : t.counted.first < c.args.below = c.if-first-below.false in
    let within : t.counted.first < length c.args.logs.now.entries = (let h = c.if-first-len.false in let l = c.len.ensures in omega (arith, h, l)) in
    first_next c.args.logs.now c.told_lawful.ensures A t at c.args.part c.args.parts c.args.below low within
    (ap (λ o. elim o [ None ↦ false | Some x ↦ is_in_part c.args.part c.args.parts x ]) c.entry.ensures ∙ sym c.is_in_part.ensures ∙ c.if-is_in_part.true)

pub returns-in-Some : goal.returns-in-Some
returns-in-Some c = λ A is.
    let t : Table = record { regions = c.self.inside.regions.entries; counted = c.self.inside.counted; nexts = c.self.inside.nexts.entries } in
    let at = subst (IsTableAt c.args.logs.now A) (sym c.self.view_is) is in
    let low : t.counted.first < c.args.below = c.if-first-below.false in
    let within : t.counted.first < length c.args.logs.now.entries = (let h = c.if-first-len.false in let l = c.len.ensures in omega (arith, h, l)) in
    some_next c.args.logs.now c.told_lawful.ensures A t at c.args.part c.args.parts c.args.below low within
    (ap (λ o. elim o [ None ↦ false | Some x ↦ is_in_part c.args.part c.args.parts x ]) c.entry.ensures ∙ sym c.is_in_part.ensures ∙ c.if-is_in_part.false)
    c.len-nexts.ensures.ordered c.in-Some.position (sym c.first_passing.ensures ∙ c.in-Some.is)

pub returns-in-None : goal.returns-in-None
returns-in-None c = λ A is.
    let t : Table = record { regions = c.self.inside.regions.entries; counted = c.self.inside.counted; nexts = c.self.inside.nexts.entries } in
    let at = subst (IsTableAt c.args.logs.now A) (sym c.self.view_is) is in
    let low : t.counted.first < c.args.below = c.if-first-below.false in
    let within : t.counted.first < length c.args.logs.now.entries = (let h = c.if-first-len.false in let l = c.len.ensures in omega (arith, h, l)) in
    else_next c.args.logs.now c.told_lawful.ensures A t at c.args.part c.args.parts c.args.below low within
    (ap (λ o. elim o [ None ↦ false | Some x ↦ is_in_part c.args.part c.args.parts x ]) c.entry.ensures ∙ sym c.is_in_part.ensures ∙ c.if-is_in_part.false)
    c.len-nexts.ensures.ordered (sym c.first_passing.ensures ∙ c.in-None.is)
