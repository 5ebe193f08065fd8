use Rattle.segment_install.proofs.Making.{built_for}
use Rattle.segment_install.proofs.laws.builds_can_be_installed.Goals as goal

pub returns : goal.returns
returns g c = λ columns rows built is. built_for g.G.Gripped.tells g.G.Gripped.bytes columns rows built is
