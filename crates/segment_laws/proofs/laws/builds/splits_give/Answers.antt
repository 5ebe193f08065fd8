use Rattle.segment_laws.proofs.Contracts.{split_gives}
use Rattle.segment_laws.proofs.laws.builds.splits_give.Goals as goal

pub returns : goal.returns
returns g c = λ bytes columns rows at old built stable cut is gives reads. split_gives bytes columns rows built at old stable cut is gives reads
