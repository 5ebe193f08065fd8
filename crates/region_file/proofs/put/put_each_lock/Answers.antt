use Rattle.std.proofs.Common.{◌≡◌, ◌∙◌, ◌++◌, subst, rules, SFits, w64}
use Rattle.std.proofs.lemmas.Int.{to_z-of_z}
use Rattle.std.proofs.lemmas.Result.{err_from_is_err_and}
use Rattle.region_file.specs.Spelling as spelling
use Rattle.region_file.specs.Spelling.{LockFits}
use Rattle.region_file.proofs.Going.{starts, goes_on, fails, ends, ends_fit}
use Rattle.region_file.proofs.put.put_each_lock.Goals as goal

pub loop-handle-init : goal.loop-handle-init
loop-handle-init c = starts spelling.lock LockFits c.args.region.now.locks c.args.into.now.items _ (c.into_iter-handle-iterator.ensures.into_iter_gives ∙ c.each_lock-handle-items.ensures.all)

pub loop-handle-preserved : goal.loop-handle-preserved
loop-handle-preserved c =
    let fits : SFits w64 c.in-Some.handle.now = search rules in
    goes_on spelling.lock LockFits c.args.region.now.locks c.args.into.now.items c.loop-handle.handle-iterator c.next.new.self (c.in-Some.handle.now, c.in-Some.lock.now) c.loop-handle.into.items c.put_lock.new.into.items c.loop-handle.invariant c.in-Some.ensures.steps
    (subst (λ h. c.put_lock.new.into.items ≡ c.loop-handle.into.items ++ spelling.lock (h, c.in-Some.lock.now)) (to_z-of_z w64 _ fits) c.in_ok-put_lock.ensures.bytes) (subst (λ h. LockFits (h, c.in-Some.lock.now)) (to_z-of_z w64 _ fits) c.in_ok-put_lock.ensures.fits)

pub returns-in_err-put_lock-clause-bytes : goal.returns-in_err-put_lock-clause-bytes
returns-in_err-put_lock-clause-bytes c =
    let p = err_from_is_err_and c.from_residual.result c.from_residual.ensures.1 in
    rw (p.1) (fails spelling.lock LockFits c.args.region.now.locks c.args.into.now.items c.loop-handle.handle-iterator c.loop-handle.into.items c.put_lock.new.into.items c.loop-handle.invariant c.in_err-put_lock.ensures.bytes)

pub returns-clause-bytes : goal.returns-clause-bytes
returns-clause-bytes c = ends spelling.lock LockFits c.args.region.now.locks c.args.into.now.items c.loop-handle.handle-iterator c.loop-handle.into.items c.loop-handle.invariant c.in-None.ensures.steps.0

pub returns-clause-fits : goal.returns-clause-fits
returns-clause-fits c = ends_fit spelling.lock LockFits c.args.region.now.locks c.args.into.now.items c.loop-handle.handle-iterator c.loop-handle.into.items c.loop-handle.invariant c.in-None.ensures.steps.0
