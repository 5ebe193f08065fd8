use Rattle.prefix_laws.proofs.Counts.{merge}
use Rattle.prefix_laws.proofs.laws.counts.merges_keep_counts.Goals as goal

pub returns : goal.returns
returns c = λ log lawful S m safe from last steps l r both new left_at right_at a b. merge log lawful S m safe from last steps l.range r.range both l.stable r.stable new l.taken l.named l.more r.taken r.named r.more left_at right_at a.begins a.ends b.begins b.ends a.by b.by a.later b.later
