use Rattle.prefix_laws.proofs.Counts.{middle, middle_by, middle_high, middle_later, middle_low}
use Rattle.prefix_laws.proofs.laws.counts.views_have_counts.Goals as goal

pub returns : goal.returns
returns c = λ from last k taken rest order are. (
  middle from last k,
  record {
    begins = middle_low from last k order;
    ends = middle_high from last k order;
    by = middle_by from last k order taken are.by are.known;
    later = middle_later from last k order rest are.later;
  },
)
