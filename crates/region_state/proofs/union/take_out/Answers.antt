use Rattle.std.proofs.Common.{◌∙◌, sym, ap}
use Rattle.region_state.specs.State.{outside}
use Rattle.region_state.proofs.Uniting.{outside_step, outside_none}
use Rattle.region_state.proofs.union.take_out.Goals as goal

pub loop-key-init : goal.loop-key-init
loop-key-init g c = record {
  rest = ap (λ os. outside g.K.Ord.cmp os c.args.map.now.entries) (c.into_iter-key-iterator.ensures.into_iter_gives ∙ c.iter-key-items.ensures.rest);
  rise = c.len-len.ensures.ordered;
}

pub loop-key-preserved : goal.loop-key-preserved
loop-key-preserved g c = record {
  rest = ap (outside g.K.Ord.cmp c.next.new.self) c.remove.ensures.entries ∙ sym (outside_step g.met.K.Ord.total c.in-Some.key.now c.in-Some.field-0-1.now c.next.new.self c.loop-key.map.entries c.loop-key.invariant.rise)
      ∙ sym (ap (λ os. outside g.K.Ord.cmp os c.loop-key.map.entries) c.in-Some.ensures.steps) ∙ c.loop-key.invariant.rest;
  rise = c.remove.ensures.ordered;
}

pub returns : goal.returns
returns g c = sym (outside_none g.K.Ord.cmp c.loop-key.key-iterator c.loop-key.map.entries c.in-None.ensures.steps.0) ∙ c.loop-key.invariant.rest
