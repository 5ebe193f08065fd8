use Rattle.learner_read.specs.Scans.{answers_of}
use Rattle.segment_snapshot.specs.Rights.{answers_as}
use Rattle.segment_snapshot.proofs.Functions.{scans_by}
use Rattle.segment_snapshot.proofs.laws.scans_by_a_function.Goals as goal

pub returns : goal.returns
returns g c = λ snapshot f passes same bound pieces found damage scans. scans_by g.G.Gripped.bytes snapshot (answers_of g.F.Fn f) (answers_as passes) same bound pieces found damage scans
