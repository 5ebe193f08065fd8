use Rattle.std.proofs.Common.{◌∙◌, ap, sym, subst, take}
use Rattle.committed_log.specs.Store.{Store}
use Rattle.region_state.specs.Folding.{after_all}
use Rattle.region_state.specs.Standing.{AreOf}
use Rattle.region_state.specs.Undoing.{CanGoBack}
use Rattle.region_state.proofs.Undoing.{rest_after}
use Rattle.region_state.proofs.advance.make_all.Goals as goal

pub returns-in-Ok-finish-clause-ok : goal.returns-in-Ok-finish-clause-ok
returns-in-Ok-finish-clause-ok c = λ s are. subst (λ (t : Store). AreOf t c.finish.new.values.entries c.finish.new.locks.entries) (ap (after_all (after_all s (take c.in-Ok.made c.args.ops.now))) c.split_at.ensures.back ∙ rest_after s c.args.ops.now c.in-Ok.made) (c.in-Ok-finish.ensures.ok (after_all s (take c.in-Ok.made c.args.ops.now)) (c.in-Ok.ensures.ok s are))

pub returns-in-Err-finish-clause-back : goal.returns-in-Err-finish-clause-back
returns-in-Err-finish-clause-back c = λ vs ls back.
    subst (λ values. CanGoBack values c.finish.new.locks.entries c.put_first.new.puts vs ls) (sym c.in-Err-finish.ensures.err_values)
    (subst (λ locks. CanGoBack c.put_first.new.values.entries locks c.put_first.new.puts vs ls) (sym c.in-Err-finish.ensures.err_locks) (c.put_first.ensures.back vs ls back))
