use Rattle.segment_laws.proofs.Jobs.{of_job}
use Rattle.segment_laws.proofs.laws.builds.jobs_tell_what_was_built.Goals as goal

pub returns : goal.returns
returns g c = λ columns rows built job same is. of_job g.G.Gripped.tells g.G.Gripped.bytes columns rows built job same is
