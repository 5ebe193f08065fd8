use Rattle.good_state.proofs.Raising.{raised_follows, raised_good}
use Rattle.good_state.proofs.laws.safe_points_keep_good.Goals as goal

pub returns-clause-follows : goal.returns-clause-follows
returns-clause-follows g c = λ s ts up. raised_follows s ts up

pub returns-clause-good : goal.returns-clause-good
returns-clause-good g c = λ bytes s ts up good. raised_good s ts up bytes good
