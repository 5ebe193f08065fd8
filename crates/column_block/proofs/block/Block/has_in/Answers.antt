use Rattle.std.proofs.Common.{◌≡◌, ◌∙◌, ap, sym, map, List, ℤ, to_z, of_z, w64, arith}
use Rattle.std.specs.Arc.{arc_value}
use Rattle.std.specs.List.{list_any}
use Rattle.std.proofs.lemmas.Int.{to_z-of_z}
use Rattle.column_block.specs.Handles.{lies_in}
use Rattle.column_block.proofs.Kept.{none_next, any_here}
use Rattle.column_block.proofs.block.Block.has_in.Goals as goal

pub returns-then-lies_in : goal.returns-then-lies_in
returns-then-lies_in c =
    let view = ap (map arc_value) c.as_slice-one-items.ensures.value ∙ c.self.view_is in
    let back : to_z w64 (of_z w64 c.args.low) ≡ c.args.low = to_z-of_z w64 c.args.low c.ranges.low in
    sym (any_here arc_value (lies_in c.args.low c.args.high) c.as_slice-one-items.result.now c.args.self.now c.loop-one.one-index c.one-item.result c.deref.result.now view (omega (arith, c.loop-one-test.true)) c.one-item.is c.deref.ensures (ap (λ (low : ℤ). lies_in low c.args.high c.deref.result.now) (sym back) ∙ sym c.lies_in.ensures ∙ c.if-lies_in.true))

pub loop-one-preserved : goal.loop-one-preserved
loop-one-preserved c =
    let view = ap (map arc_value) c.as_slice-one-items.ensures.value ∙ c.self.view_is in
    none_next arc_value (lies_in (to_z w64 (of_z w64 c.args.low)) c.args.high) c.as_slice-one-items.result.now c.args.self.now c.loop-one.one-index c.one-item.result c.deref.result.now view (omega (arith, c.loop-one-test.true)) c.one-item.is c.deref.ensures (sym c.lies_in.ensures ∙ c.if-lies_in.false) c.loop-one.invariant
