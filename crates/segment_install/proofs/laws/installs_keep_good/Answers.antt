use Rattle.std.proofs.Common.{List, map}
use Rattle.good_replica.specs.Good.{AreGood}
use Rattle.prefix_laws.specs.Prefixes.{ArePrefixesGood}
use Rattle.prefix_laws.specs.Tagged.{TaggedSegment, content}
use Rattle.segment_install.proofs.Goods.{laws_at_counts, laws_of_all}
use Rattle.segment_install.proofs.Whole.{install_keeps}
use Rattle.segment_install.proofs.laws.installs_keep_good.Goals as goal

pub returns-clause-counts : goal.returns-clause-counts
returns-clause-counts g c = λ log lawful S m safe committed last steps order columns rows read first files built slots install is good.
    install_keeps (ArePrefixesGood log S m safe committed last) g.G.Gripped.tells g.G.Gripped.bytes columns rows read safe committed last first (laws_at_counts log lawful S m safe committed last steps) order files built slots install is good

pub returns-clause-all : goal.returns-clause-all
returns-clause-all g c = λ log lawful A m safe committed last order columns rows read first files built slots install is good.
    install_keeps (λ (segments : List TaggedSegment). AreGood log A m safe (map (content last) segments)) g.G.Gripped.tells g.G.Gripped.bytes columns rows read safe committed last first (laws_of_all log lawful A m safe committed last order) order files built slots install is good
