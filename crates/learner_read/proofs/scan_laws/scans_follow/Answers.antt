use Rattle.learner_read.specs.Scans.{answers_of}
use Rattle.learner_read.proofs.Reading.{follow}
use Rattle.learner_read.proofs.scan_laws.scans_follow.Goals as goal

pub returns : goal.returns
returns g c = λ snapshot f bound first others. follow g.G.Gripped.bytes snapshot (answers_of g.F.Fn f) bound first others
