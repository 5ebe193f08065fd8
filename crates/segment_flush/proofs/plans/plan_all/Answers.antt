use Rattle.std.proofs.Common.{rules, ◌≡◌, ◌∙◌, ◌++◌, ◌∷◌, [], ap, sym, List, Option, Some, take, ℕ}
use Rattle.std.specs.Prelude.{slice_get}
use Rattle.segment_list.specs.declared.flush.Flush.{Flush}
use Rattle.segment_flush.specs.Flushing.{after_slots, has_more, next_of, plan_of, plans_of}
use Rattle.segment_flush.proofs.Planned.{at_place, next_after, next_plan, planned_next}
use Rattle.segment_flush.proofs.plans.plan_all.Goals as goal

pub loop-i-preserved : goal.loop-i-preserved
loop-i-preserved g c =
    let slots = c.args.list.now in
    let it = at_place slots c.loop-i.i (search rules) in
    let plan : c.in_ok-plan.plan ≡ plan_of (has_more it.0) (after_slots has_more c.args.from (take c.loop-i.i slots)) it.0 = c.in_ok-plan.ensures it.0 it.1 ∙ ap (λ (n : ℕ). plan_of (has_more it.0) n it.0) c.loop-i.invariant.1 in
    let pushed : c.push.new.self.items ≡ c.loop-i.flushes.items ++ c.in_ok-plan.plan ∷ [] = search rules in (
      pushed ∙ (λ i. c.loop-i.invariant.0 i ++ plan i ∷ []) ∙ sym (next_plan has_more c.args.from slots c.loop-i.i it.0 it.1),
      c.after-next.ensures ∙ (λ i. next_of (c.loop-i.invariant.1 i) (plan i)) ∙ planned_next (has_more it.0) (after_slots has_more c.args.from (take c.loop-i.i slots)) it.0 ∙ sym (next_after has_more c.args.from slots c.loop-i.i it.0 it.1),
    )
