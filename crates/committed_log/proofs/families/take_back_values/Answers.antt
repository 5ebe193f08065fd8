use Rattle.std.proofs.Common.{◌∙◌, sym, ap, subst, ℤ, IsSome, w64, SFits, rules}
use Rattle.std.specs.BTreeMap.{get}
use Rattle.std.proofs.lemmas.Int.{to_z-of_z}
use Rattle.committed_log.specs.Families.{held}
use Rattle.committed_log.specs.Store.{value_cmp}
use Rattle.committed_log.proofs.Undo.{popped_there, popped_can, popped_same}
use Rattle.committed_log.proofs.families.take_back_values.Goals as goal

pub restore_value-requires : goal.restore_value-requires
restore_value-requires g c =
    let fits : SFits w64 c.in-Some.handle = search rules in
    subst (λ (h : ℤ). IsSome (get value_cmp c.loop-handle.values (h, c.in-Some.start))) (sym (to_z-of_z w64 _ fits))
    (popped_there value_cmp c.loop-handle.undo.items c.pop.new.self.items ((c.in-Some.handle, c.in-Some.start), c.in-Some.value) (get value_cmp c.loop-handle.values) c.in-Some.ensures.items c.loop-handle.invariant.can)

pub loop-handle-preserved : goal.loop-handle-preserved
loop-handle-preserved g c =
    let fits : SFits w64 c.in-Some.handle = search rules in
    let is = simp (to_z-of_z w64 _ fits) at c.restore_value.ensures in
    record {
      can = popped_can value_cmp c.loop-handle.undo.items c.pop.new.self.items ((c.in-Some.handle, c.in-Some.start), c.in-Some.value) (get value_cmp c.loop-handle.values) c.in-Some.ensures.items c.loop-handle.invariant.can (get value_cmp c.restore_value.new.values) is;
      back = λ h start. ap held (popped_same value_cmp c.loop-handle.undo.items c.pop.new.self.items ((c.in-Some.handle, c.in-Some.start), c.in-Some.value) (get value_cmp c.loop-handle.values) c.in-Some.ensures.items c.loop-handle.invariant.can (get value_cmp c.restore_value.new.values) is (h, start)) ∙ c.loop-handle.invariant.back h start;
    }
