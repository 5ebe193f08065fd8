use Rattle.std.proofs.Common.{◌∷◌, [], ◌++◌, length}
use Rattle.prefix_laws.specs.Prefixes.{upto}
use Rattle.prefix_laws.proofs.Replica.{applied}
use Rattle.prefix_laws.proofs.Steps.{upto_next, upto_same}
use Rattle.prefix_laws.proofs.laws.entries.applies_keep_counts.Goals as goal

pub returns : goal.returns
returns c = λ log lawful opened listed p m safe from closed free more order segments all good. applied log lawful (upto opened listed) (upto opened (listed ++ p ∷ [])) m safe from (length listed) p closed free more (upto_same opened listed p) (upto_next opened listed p) order segments all good
