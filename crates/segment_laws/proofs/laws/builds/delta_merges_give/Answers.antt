use Rattle.segment_laws.proofs.Contracts.{delta_merge_gives}
use Rattle.segment_laws.proofs.laws.builds.delta_merges_give.Goals as goal

pub returns : goal.returns
returns g c = λ bytes columns rows safe old built stable is gives reads. delta_merge_gives bytes columns rows built safe old stable is gives reads
