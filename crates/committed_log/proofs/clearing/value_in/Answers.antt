use Rattle.std.proofs.Common.{to_z, of_z, sym, subst, ℤ, IsSome, w64, SFits, rules, false, ◌≡◌}
use Rattle.std.specs.BTreeMap.{get}
use Rattle.std.specs.declared.ops.Bound.TheVariants.{Included, Unbounded}
use Rattle.std.proofs.lemmas.Int.{to_z-of_z}
use Rattle.flash_types.specs.Ranges.{is_below}
use Rattle.committed_log.specs.Store.{value_cmp}
use Rattle.committed_log.proofs.Parts.{first_there, no_pair_behind, no_pair}
use Rattle.committed_log.proofs.clearing.value_in.Goals as goal

pub returns-then-is_below_end-clause-there : goal.returns-then-is_below_end-clause-there
returns-then-is_below_end-clause-there c =
    let fits : SFits w64 c.in-Some.key.now.0 = search rules in
    subst (λ (h : ℤ). IsSome (get value_cmp c.args.values.now (h, c.in-Some.key.now.1))) (sym (to_z-of_z w64 _ fits)) (first_there value_cmp (Included (to_z w64 (of_z w64 c.args.range.low), 0)) Unbounded c.args.values.now c.range.result (c.range.ensures.in_range tt) c.in-Some.key.now c.in-Some.field-0-1.now c.next.new.self c.in-Some.ensures.steps)

pub returns-else-is_below_end-clause-none : goal.returns-else-is_below_end-clause-none
returns-else-is_below_end-clause-none c =
    let fits : SFits w64 c.in-Some.key.now.0 = search rules in
    let past : is_below c.in-Some.key.now.0 c.args.range.high ≡ false = simp (to_z-of_z w64 _ fits) at (sym (rw c.if-is_below_end.false at c.is_below_end.ensures)) in
    let low_fits : SFits w64 c.args.range.low = search rules in
    λ none. no_pair_behind c.args.values.now (to_z w64 (of_z w64 c.args.range.low)) c.args.range.low c.args.range.high (to_z-of_z w64 _ low_fits) c.range.result (c.range.ensures.in_range tt) c.in-Some.key.now.0 c.in-Some.key.now.1 c.in-Some.field-0-1.now c.next.new.self c.in-Some.ensures.steps past

pub returns-in-None-clause-none : goal.returns-in-None-clause-none
returns-in-None-clause-none c =
    let low_fits : SFits w64 c.args.range.low = search rules in
    λ none. no_pair c.args.values.now (to_z w64 (of_z w64 c.args.range.low)) c.args.range.low c.args.range.high (to_z-of_z w64 _ low_fits) c.range.result (c.range.ensures.in_range tt) c.in-None.ensures.steps.0
