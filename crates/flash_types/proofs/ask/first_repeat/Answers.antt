use Rattle.flash_types.proofs.Repeats.{one_more, all_of_them}
use Rattle.flash_types.proofs.ask.first_repeat.Goals as goal

pub loop-place-preserved : goal.loop-place-preserved
loop-place-preserved c = one_more c.args.regions.now c.loop-place.place _ c.loop-place-test.true c.loop-place.invariant (λ h. absurd (cc (c.if-stands.ensures.1 h)))

pub returns-clause-none : goal.returns-clause-none
returns-clause-none c = λ _. all_of_them c.args.regions.now c.loop-place.place c.loop-place-test.false c.loop-place.invariant
