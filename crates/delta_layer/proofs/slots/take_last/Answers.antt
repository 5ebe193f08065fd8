use Rattle.delta_layer.proofs.Indexes.{slots_pop}
use Rattle.delta_layer.proofs.slots.take_last.Goals as goal

pub returns-in-Some-clause-slots : goal.returns-in-Some-clause-slots
returns-in-Some-clause-slots c = slots_pop c.args.slots.now.items c.pop.new.self.items c.in-Some.slot c.in-Some.ensures.items c.requires
