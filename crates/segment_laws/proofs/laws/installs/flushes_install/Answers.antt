use Rattle.std.proofs.Common.{arith, refl}
use Rattle.prefix_laws.specs.Tagged.{tagged_of}
use Rattle.prefix_laws.proofs.Replica.{changed, changed_once}
use Rattle.segment_laws.proofs.Flushed.{flushed_good, flushed_once}
use Rattle.segment_laws.proofs.laws.installs.flushes_install.Goals as goal

pub returns-clause-counts : goal.returns-clause-counts
returns-clause-counts c = λ log lawful S m safe from last steps order before after range stable old new flush. changed log S m safe from last before (tagged_of range stable old) (tagged_of range stable new) after refl
    (flushed_good log lawful S m safe from last steps order range stable old new flush)

pub returns-clause-once : goal.returns-clause-once
returns-clause-once c = λ log A m safe k before after range stable old new flush. changed_once log A m safe k before (tagged_of range stable old) (tagged_of range stable new) after refl
    (flushed_once log A m safe k k (omega arith) range stable old new flush)
