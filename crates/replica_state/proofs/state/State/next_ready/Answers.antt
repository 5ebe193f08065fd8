use Rattle.std.proofs.Common.{rules, ◌≡◌, None, sym, subst}
use Rattle.std.specs.Arc.{arc_value}
use Rattle.committed_log.specs.Log.{Log}
use Rattle.region_table.specs.Applying.{AreApplied}
use Rattle.region_table.specs.Counting.{applied_in}
use Rattle.region_table.specs.Table.{IsTableAt}
use Rattle.replica_state.specs.Core.{Core, full}
use Rattle.replica_state.proofs.state.State.next_ready.Goals as goal

pub returns-clause-none : goal.returns-clause-none
returns-clause-none g c =
    let log = arc_value c.self.inside.logs in
    let table = c.self.inside.table in
    let A = applied_in log table.regions in
    let here : c.deref.result.now ≡ log = search rules in
    let none : c.next_ready.result ≡ None → AreApplied log A c.args.below = subst (λ (l : Log). c.next_ready.result ≡ None → AreApplied l A c.args.below) here (c.next_ready.ensures.none A (subst (λ (l : Log). IsTableAt l A table) (sym here) c.self.invariant.sets.table)) in
    subst (λ (s : Core _). c.next_ready.result ≡ None → AreApplied s.log (full s) c.args.below) c.self.view_is none
