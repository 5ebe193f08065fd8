use Rattle.std.proofs.Common.{SFits, ◌+◌, ◌-◌, ◌/◌, subst, arith, ℤ, to_z, of_z, w64}
use Rattle.std.proofs.lemmas.Int.{ints, to_z-of_z}
use Rattle.delta_index.specs.Chunks.{flat}
use Rattle.delta_index.specs.Indexes.{IsFirstFrom}
use Rattle.delta_index.proofs.Handles.{before_more, from_here}
use Rattle.delta_index.proofs.index.first_from.Goals as goal

pub loop-low-preserved-then-entry-handle : goal.loop-low-preserved-then-entry-handle
loop-low-preserved-then-entry-handle c = record {
  order = omega arith;
  within = c.loop-low.invariant.within;
  before = before_more (flat c.args.chunks.now) (c.loop-low.low + (c.loop-low.high - c.loop-low.low) / 2) c.at-entry.result (to_z w64 (of_z w64 c.args.handle)) c.requires c.at-entry.ensures (omega (arith, ints));
  from = c.loop-low.invariant.from;
}

pub loop-low-preserved : goal.loop-low-preserved
loop-low-preserved c = record {
  order = omega arith;
  within = omega arith;
  before = c.loop-low.invariant.before;
  from = from_here (flat c.args.chunks.now) (c.loop-low.low + (c.loop-low.high - c.loop-low.low) / 2) c.at-entry.result (to_z w64 (of_z w64 c.args.handle)) c.requires c.at-entry.ensures (omega (arith, ints));
}

pub returns : goal.returns
returns c =
    let fits : SFits w64 c.args.handle = c.ranges.handle in
    let met : IsFirstFrom (to_z w64 (of_z w64 c.args.handle)) (flat c.args.chunks.now) c.loop-low.low = record {
      within = omega arith;
      before = c.loop-low.invariant.before;
      from = λ k e ge is. c.loop-low.invariant.from k e (omega arith) is;
    } in
    subst (λ (h : ℤ). IsFirstFrom h (flat c.args.chunks.now) c.loop-low.low) (to_z-of_z w64 c.args.handle fits) met
