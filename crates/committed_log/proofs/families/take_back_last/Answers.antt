use Rattle.std.proofs.Common.{◌∙◌, sym, subst, ℤ, IsSome, w64, SFits, rules}
use Rattle.std.specs.BTreeMap.{get}
use Rattle.std.specs.Ordering.{int_cmp}
use Rattle.std.proofs.lemmas.Int.{to_z-of_z}
use Rattle.committed_log.proofs.Undo.{popped_there, popped_can, popped_same}
use Rattle.committed_log.proofs.families.take_back_last.Goals as goal

pub restore_last-requires : goal.restore_last-requires
restore_last-requires g c =
    let fits : SFits w64 c.in-Some.handle = search rules in
    subst (λ (h : ℤ). IsSome (get int_cmp c.loop-handle.last h)) (sym (to_z-of_z w64 _ fits))
    (popped_there int_cmp c.loop-handle.undo.items c.pop.new.self.items (c.in-Some.handle, c.in-Some.commit) (get int_cmp c.loop-handle.last) c.in-Some.ensures.items c.loop-handle.invariant.can)

pub loop-handle-preserved : goal.loop-handle-preserved
loop-handle-preserved g c =
    let fits : SFits w64 c.in-Some.handle = search rules in
    let is = simp (to_z-of_z w64 _ fits) at c.restore_last.ensures in
    record {
      can = popped_can int_cmp c.loop-handle.undo.items c.pop.new.self.items (c.in-Some.handle, c.in-Some.commit) (get int_cmp c.loop-handle.last) c.in-Some.ensures.items c.loop-handle.invariant.can (get int_cmp c.restore_last.new.last) is;
      back = λ h. popped_same int_cmp c.loop-handle.undo.items c.pop.new.self.items (c.in-Some.handle, c.in-Some.commit) (get int_cmp c.loop-handle.last) c.in-Some.ensures.items c.loop-handle.invariant.can (get int_cmp c.restore_last.new.last) is h ∙ c.loop-handle.invariant.back h;
    }
