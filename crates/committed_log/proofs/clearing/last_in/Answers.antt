use Rattle.std.proofs.Common.{to_z, of_z, sym, subst, ℤ, IsSome, w64, SFits, rules, false, ◌≡◌}
use Rattle.std.specs.BTreeMap.{get}
use Rattle.std.specs.Ordering.{int_cmp}
use Rattle.std.specs.declared.ops.Bound.TheVariants.{Included, Unbounded}
use Rattle.std.proofs.lemmas.Int.{to_z-of_z}
use Rattle.flash_types.specs.Ranges.{is_below}
use Rattle.committed_log.proofs.Parts.{first_there, none_behind}
use Rattle.committed_log.proofs.clearing.last_in.Goals as goal

pub returns-then-is_below_end-clause-there : goal.returns-then-is_below_end-clause-there
returns-then-is_below_end-clause-there c =
    let fits : SFits w64 c.in-Some.handle.now = search rules in
    subst (λ (h : ℤ). IsSome (get int_cmp c.args.last.now h)) (sym (to_z-of_z w64 _ fits)) (first_there int_cmp (Included (to_z w64 (of_z w64 c.args.range.low))) Unbounded c.args.last.now c.range.result (c.range.ensures.in_range tt) c.in-Some.handle.now c.in-Some.field-0-1.now c.next.new.self c.in-Some.ensures.steps)

pub returns-else-is_below_end-clause-none : goal.returns-else-is_below_end-clause-none
returns-else-is_below_end-clause-none c =
    let fits : SFits w64 c.in-Some.handle.now = search rules in
    let past : is_below c.in-Some.handle.now c.args.range.high ≡ false = simp (to_z-of_z w64 _ fits) at (sym (rw c.if-is_below_end.false at c.is_below_end.ensures)) in
    let low_fits : SFits w64 c.args.range.low = search rules in
    λ none. none_behind c.args.last.now (to_z w64 (of_z w64 c.args.range.low)) c.args.range.low c.args.range.high (to_z-of_z w64 _ low_fits) c.range.result (c.range.ensures.in_range tt) c.in-Some.handle.now c.in-Some.field-0-1.now c.next.new.self c.in-Some.ensures.steps past
