use Rattle.std.proofs.Common.{rules, ◌≡◌, ℕ, Bool, List, [], refl, sym, subst}
use Rattle.std.specs.Arc.{arc_value}
use Rattle.committed_log.specs.Lawful.{IsLawful}
use Rattle.committed_log.specs.Log.{Log}
use Rattle.region_table.specs.Counting.{applied_in}
use Rattle.region_table.specs.Table.{IsTableAt, size_of}
use Rattle.replica_state.specs.Core.{IsCore, IsHighest}
use Rattle.replica_state.proofs.Opened.{opened_in_order}
use Rattle.replica_state.proofs.state.State.opened.Goals as goal

pub invariant_of-result : goal.invariant_of-result
invariant_of-result g c =
    let log = arc_value c.args.logs in
    let t = c.args.table in
    let lawful : IsLawful log = search rules in
    let counts : c.deref-2.result.now ≡ log = search rules in
    let here : c.deref-3.result.now ≡ log = search rules in
    let listed : c.new.result.items ≡ [] = search rules in
    let sized : (B : ℕ → Bool) → IsTableAt log B t → c.count-count.result ≡ size_of log B = subst (λ (l : Log). (B : ℕ → Bool) → IsTableAt l B t → c.count-count.result ≡ size_of l B) counts c.count-count.ensures in
    let highest : IsHighest (applied_in log t.regions) c.highest_of-highest.result = subst (λ (l : Log). IsHighest (applied_in l t.regions) c.highest_of-highest.result) here c.highest_of-highest.ensures in
    let order = opened_in_order log lawful c.args.segments t c.count-count.result c.highest_of-highest.result c.args.numbers c.args.settings c.requires.table.0 c.requires.table.1 sized highest c.requires.slots c.requires.numbers c.requires.settings in
    subst (λ (l : List ℕ). IsCore (record { log = log; slots = c.args.segments; table = t; listed = l; committed = 0; count = c.count-count.result; highest = c.highest_of-highest.result; numbers = c.args.numbers; settings = c.args.settings })) (sym listed) order

pub returns : goal.returns
returns g c =
    let log = arc_value c.args.logs in
    let t = c.args.table in
    let lawful : IsLawful log = search rules in
    let counts : c.deref-2.result.now ≡ log = search rules in
    let here : c.deref-3.result.now ≡ log = search rules in
    let listed : c.new.result.items ≡ [] = search rules in
    let sized : (B : ℕ → Bool) → IsTableAt log B t → c.count-count.result ≡ size_of log B = subst (λ (l : Log). (B : ℕ → Bool) → IsTableAt l B t → c.count-count.result ≡ size_of l B) counts c.count-count.ensures in
    let highest : IsHighest (applied_in log t.regions) c.highest_of-highest.result = subst (λ (l : Log). IsHighest (applied_in l t.regions) c.highest_of-highest.result) here c.highest_of-highest.ensures in
    let order = opened_in_order log lawful c.args.segments t c.count-count.result c.highest_of-highest.result c.args.numbers c.args.settings c.requires.table.0 c.requires.table.1 sized highest c.requires.slots c.requires.numbers c.requires.settings in
    record { log = refl; slots = refl; table = refl; listed = listed; committed = refl; numbers = refl; settings = refl; order = subst (λ (l : List ℕ). IsCore (record { log = log; slots = c.args.segments; table = t; listed = l; committed = 0; count = c.count-count.result; highest = c.highest_of-highest.result; numbers = c.args.numbers; settings = c.args.settings })) (sym listed) order }
