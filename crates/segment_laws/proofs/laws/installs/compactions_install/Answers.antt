use Rattle.std.proofs.Common.{refl}
use Rattle.prefix_laws.specs.Tagged.{tagged_of}
use Rattle.prefix_laws.proofs.Replica.{changed, changed_once}
use Rattle.segment_laws.specs.Runs.{with_run}
use Rattle.segment_laws.proofs.Packs.{run_compacts, run_compacts_once}
use Rattle.segment_laws.proofs.laws.installs.compactions_install.Goals as goal

pub returns-clause-counts : goal.returns-clause-counts
returns-clause-counts c = λ log S m safe from last before after range stable files layer start end tag is. changed log S m safe from last before (tagged_of range stable files) (tagged_of range stable (with_run tag layer start end files)) after refl
    (run_compacts log S m safe from last range stable files layer start end tag is)

pub returns-clause-once : goal.returns-clause-once
returns-clause-once c = λ log A m safe k before after range stable files layer start end tag is. changed_once log A m safe k before (tagged_of range stable files) (tagged_of range stable (with_run tag layer start end files)) after refl
    (run_compacts_once log A m safe k range stable files layer start end tag is)
