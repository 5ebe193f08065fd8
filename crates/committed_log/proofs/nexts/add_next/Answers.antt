use Rattle.std.proofs.Common.{refl, sym, subst, Option, IsSome, nat_eq}
use Rattle.std.specs.HashMap.{get}
use Rattle.committed_log.specs.Nexts.{Successors}
use Rattle.committed_log.proofs.NextLists.{added}
use Rattle.committed_log.proofs.nexts.add_next.Goals as goal

pub returns-in-Ok-clause-ok : goal.returns-in-Ok-clause-ok
returns-in-Ok-clause-ok c =
    let there = subst (λ (o : Option Successors). IsSome o) c.in-Some.ensures.value refl in
    added (get nat_eq c.args.nexts.now) (get nat_eq (c.get_mut.follows.lender c.push.new.self)) c.args.id c.args.index c.args.position c.in-Some.there.now c.push.new.self
    (sym c.in-Some.ensures.value) (c.in-Ok.ensures.ok c.args.index) ((c.get_mut.follows.holds c.push.new.self).3 there).0
