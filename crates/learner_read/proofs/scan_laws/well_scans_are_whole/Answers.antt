use Rattle.learner_read.specs.Scans.{answers_of}
use Rattle.learner_read.proofs.Reading.{whole}
use Rattle.learner_read.proofs.scan_laws.well_scans_are_whole.Goals as goal

pub returns : goal.returns
returns g c = λ snapshot f bound pieces rows at well scans. whole g.G.Gripped.bytes snapshot (answers_of g.F.Fn f) bound pieces rows at well scans
