use Rattle.learner_read.specs.Scans.{answers_of}
use Rattle.learner_read.proofs.Reading.{are_read}
use Rattle.learner_read.proofs.scan_laws.scans_are_the_read_rule.Goals as goal

pub returns : goal.returns
returns g c = λ snapshot f bound pieces rows keeps rise scans. are_read g.G.Gripped.bytes snapshot (answers_of g.F.Fn f) bound keeps pieces rows rise scans
