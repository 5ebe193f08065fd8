use Rattle.segment_laws.proofs.Jobs.{of_compaction, of_delta_merge, of_merge, of_split}
use Rattle.segment_laws.proofs.laws.builds.builds_are_by_their_jobs.Goals as goal

pub returns-clause-compaction : goal.returns-clause-compaction
returns-clause-compaction g c = λ columns rows old built is. of_compaction g.G.Gripped.tells g.G.Gripped.bytes columns rows old built is

pub returns-clause-delta_merge : goal.returns-clause-delta_merge
returns-clause-delta_merge g c = λ columns rows safe old built is gives. of_delta_merge g.G.Gripped.tells g.G.Gripped.bytes columns rows safe old built is gives

pub returns-clause-split : goal.returns-clause-split
returns-clause-split g c = λ columns rows at old built cut is gives. of_split g.G.Gripped.tells g.G.Gripped.bytes columns rows at old built cut is gives

pub returns-clause-merge : goal.returns-clause-merge
returns-clause-merge g c = λ columns rows left right built touch is gives. of_merge g.G.Gripped.tells g.G.Gripped.bytes columns rows left right built touch is gives
