use Rattle.std.proofs.Common.{◌≡◌, ◌∙◌, ◌++◌, subst, rules, SFits, w64}
use Rattle.std.proofs.lemmas.Int.{to_z-of_z}
use Rattle.std.proofs.lemmas.Result.{err_from_is_err_and}
use Rattle.region_file.specs.Spelling as spelling
use Rattle.region_file.specs.Spelling.{ValueFits}
use Rattle.region_file.proofs.Going.{starts, goes_on, fails, ends, ends_fit}
use Rattle.region_file.proofs.put.put_each_value.Goals as goal

pub loop-key-init : goal.loop-key-init
loop-key-init c = starts spelling.value ValueFits c.args.region.now.values c.args.into.now.items _ (c.into_iter-key-iterator.ensures.into_iter_gives ∙ c.each_value-key-items.ensures.all)

pub loop-key-preserved : goal.loop-key-preserved
loop-key-preserved c =
    let fits : SFits w64 c.in-Some.key.now.0 = search rules in
    let written = subst (λ h. c.put_value.new.into.items ≡ c.loop-key.into.items ++ spelling.value ((h, c.in-Some.key.now.1), c.as_slice.result.now)) (to_z-of_z w64 _ fits) c.in_ok-put_value.ensures.bytes in
    let one = subst (λ h. ValueFits ((h, c.in-Some.key.now.1), c.as_slice.result.now)) (to_z-of_z w64 _ fits) c.in_ok-put_value.ensures.fits in
    goes_on spelling.value ValueFits c.args.region.now.values c.args.into.now.items c.loop-key.key-iterator c.next.new.self (c.in-Some.key.now, c.in-Some.text.now) c.loop-key.into.items c.put_value.new.into.items c.loop-key.invariant c.in-Some.ensures.steps
    (subst (λ t. c.put_value.new.into.items ≡ c.loop-key.into.items ++ spelling.value (c.in-Some.key.now, t)) c.as_slice.ensures written) (subst (λ t. ValueFits (c.in-Some.key.now, t)) c.as_slice.ensures one)

pub returns-in_err-put_value-clause-bytes : goal.returns-in_err-put_value-clause-bytes
returns-in_err-put_value-clause-bytes c =
    let p = err_from_is_err_and c.from_residual.result c.from_residual.ensures.1 in
    rw (p.1) (fails spelling.value ValueFits c.args.region.now.values c.args.into.now.items c.loop-key.key-iterator c.loop-key.into.items c.put_value.new.into.items c.loop-key.invariant c.in_err-put_value.ensures.bytes)

pub returns-clause-bytes : goal.returns-clause-bytes
returns-clause-bytes c = ends spelling.value ValueFits c.args.region.now.values c.args.into.now.items c.loop-key.key-iterator c.loop-key.into.items c.loop-key.invariant c.in-None.ensures.steps.0

pub returns-clause-fits : goal.returns-clause-fits
returns-clause-fits c = ends_fit spelling.value ValueFits c.args.region.now.values c.args.into.now.items c.loop-key.key-iterator c.loop-key.into.items c.loop-key.invariant c.in-None.ensures.steps.0
