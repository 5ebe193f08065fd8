use Rattle.std.proofs.Common.{◌≡◌, ◌∙◌, true, sym, ap, take, int_lt, arith, to_z, of_z, w64, subst, ℤ}
use Rattle.std.specs.List.{AllByRecursion}
use Rattle.std.proofs.lemmas.Int.{to_z-of_z}
use Rattle.std.proofs.lemmas.List.{take_all}
use Rattle.column_block.specs.declared.cell.Version.{Version}
use Rattle.segment_split.proofs.Cut.{all_more, from_here}
use Rattle.segment_split.proofs.halves.first_from.Goals as goal

pub returns-then-not-is_below-clause-from : goal.returns-then-not-is_below-clause-from
returns-then-not-is_below-clause-from c =
    let back : to_z w64 (of_z w64 c.args.at) ≡ c.args.at = to_z-of_z w64 c.args.at c.ranges.at in
    from_here c.args.at c.args.block.now c.loop-i.i c.at.result.now c.requires c.at.ensures (ap (int_lt c.at.result.now.handle) (sym back) ∙ sym c.is_below.ensures ∙ c.if-not-is_below.true)

pub loop-i-preserved : goal.loop-i-preserved
loop-i-preserved c =
    all_more (λ (v : Version). int_lt v.handle (to_z w64 (of_z w64 c.args.at)) ≡ true) c.args.block.now c.loop-i.i c.at.result.now c.at.ensures (sym c.is_below.ensures ∙ c.if-not-is_below.false) c.loop-i.invariant

pub returns-clause-below : goal.returns-clause-below
returns-clause-below c =
    let back : to_z w64 (of_z w64 c.args.at) ≡ c.args.at = to_z-of_z w64 c.args.at c.ranges.at in
    let i_all = take_all c.loop-i.i c.args.block.now (omega (arith, c.loop-i-test.false, c.len-i-end.ensures)) in
    let n_all = take_all c.len.result c.args.block.now (omega (arith, c.len.ensures)) in
    subst (λ (h : ℤ). AllByRecursion (λ (v : Version). int_lt v.handle h ≡ true) (take c.len.result c.args.block.now)) back
    (subst (AllByRecursion (λ (v : Version). int_lt v.handle (to_z w64 (of_z w64 c.args.at)) ≡ true)) (i_all ∙ sym n_all) c.loop-i.invariant)
