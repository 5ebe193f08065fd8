use Rattle.delta_layer.proofs.Places.{block_is}
use Rattle.delta_layer.proofs.presence.at_places.Goals as goal

pub returns-in-Ok : goal.returns-in-Ok
returns-in-Ok c = block_is c.args.all.now c.in-Ok.block c.args.places.now c.in-Ok.ensures
