use Rattle.segment_list.proofs.Listed.{one_has}
use Rattle.segment_list.proofs.laws.one_slot_has_a_handle.Goals as goal

pub returns : goal.returns
returns g c = one_has
