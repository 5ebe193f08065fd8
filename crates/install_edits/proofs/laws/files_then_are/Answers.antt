use Rattle.install_edits.proofs.Changed.{files_then}
use Rattle.install_edits.proofs.laws.files_then_are.Goals as goal

pub returns : goal.returns
returns g c = λ file place count news slots. files_then file place count news slots
