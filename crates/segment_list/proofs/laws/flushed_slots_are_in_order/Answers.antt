use Rattle.segment_list.proofs.Flushing.{in_order}
use Rattle.segment_list.proofs.laws.flushed_slots_are_in_order.Goals as goal

pub returns : goal.returns
returns g c = in_order
