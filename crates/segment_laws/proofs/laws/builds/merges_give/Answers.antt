use Rattle.segment_laws.proofs.Contracts.{merge_gives}
use Rattle.segment_laws.proofs.laws.builds.merges_give.Goals as goal

pub returns : goal.returns
returns g c = λ bytes columns rows left right built left_stable right_stable touch is gives reads_left reads_right. merge_gives bytes columns rows built left right left_stable right_stable touch is gives reads_left reads_right
