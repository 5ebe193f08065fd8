use Rattle.prefix_laws.proofs.Counts.{delta_merge_once, merge_once, split_once}
use Rattle.prefix_laws.proofs.Replica.{applied_once}
use Rattle.prefix_laws.proofs.laws.once.installs_keep_one_count.Goals as goal

pub returns-clause-delta_merge : goal.returns-clause-delta_merge
returns-clause-delta_merge c = λ log lawful A m safe k. delta_merge_once log lawful A m safe k

pub returns-clause-split : goal.returns-clause-split
returns-clause-split c = λ log lawful A m safe k. split_once log lawful A m safe k

pub returns-clause-merge : goal.returns-clause-merge
returns-clause-merge c = λ log lawful A m safe k l r both new. merge_once log lawful A m safe k l.range r.range both l.stable r.stable new l.taken l.named l.more r.taken r.named r.more

pub returns-clause-apply : goal.returns-clause-apply
returns-clause-apply c = applied_once
