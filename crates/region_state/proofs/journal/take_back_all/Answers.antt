use Rattle.std.proofs.Common.{◌∙◌, sym, ap, subst}
use Rattle.region_state.specs.Undoing.{undone, CanUndo}
use Rattle.region_state.proofs.Undoing.{undone_append, can_first, can_last}
use Rattle.region_state.proofs.journal.take_back_all.Goals as goal

pub settle_one-requires : goal.settle_one-requires
settle_one-requires g c = (can_last g.K.Ord.cmp c.loop-key.map.entries _ c.pop.new.self.items (subst (CanUndo g.K.Ord.cmp c.loop-key.map.entries) c.in-Some.ensures.items c.loop-key.invariant.can)).0

pub loop-key-preserved : goal.loop-key-preserved
loop-key-preserved g c = record {
  can = subst (λ es. CanUndo g.K.Ord.cmp es c.pop.new.self.items) (sym c.settle_one.ensures) (can_first g.K.Ord.cmp c.loop-key.map.entries _ c.pop.new.self.items (subst (CanUndo g.K.Ord.cmp c.loop-key.map.entries) c.in-Some.ensures.items c.loop-key.invariant.can));
  rest = ap (λ es. undone g.K.Ord.cmp es c.pop.new.self.items) c.settle_one.ensures ∙ sym (undone_append g.K.Ord.cmp c.loop-key.map.entries _ c.pop.new.self.items) ∙ sym (ap (undone g.K.Ord.cmp c.loop-key.map.entries) c.in-Some.ensures.items) ∙ c.loop-key.invariant.rest;
}
