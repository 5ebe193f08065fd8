use Rattle.install_edits.proofs.Changed.{changed}
use Rattle.install_edits.proofs.laws.edits_change_slots.Goals as goal

pub returns : goal.returns
returns g c = λ file s first place count news slots can gives. changed file s first place count news slots can gives
