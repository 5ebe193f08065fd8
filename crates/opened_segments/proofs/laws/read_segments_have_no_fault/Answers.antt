use Rattle.opened_segments.specs.Faults.{faults_in}
use Rattle.opened_segments.proofs.Telling.{no_first, segments_sound}
use Rattle.opened_segments.proofs.laws.read_segments_have_no_fault.Goals as goal

pub returns : goal.returns
returns c = λ own image columns stored segments e read. no_first (faults_in own image columns stored) e (segments_sound own image columns stored segments read)
