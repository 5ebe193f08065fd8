use Rattle.std.proofs.Common.{sym, subst, IfOk}
use Rattle.std.proofs.lemmas.Result.{IfOk-weaker}
use Rattle.segment_snapshot.specs.Rights.{IsRightScan}
use Rattle.replica_state.specs.Asks.{IsReadOf}
use Rattle.replica_state.specs.Core.{Core, full}
use Rattle.good_state.specs.Good.{IsGoodState}
use Rattle.good_state.proofs.Reading.{right_read}
use Rattle.replica.proofs.replica.Replica.read.Goals as goal

pub returns-clause-right : goal.returns-clause-right
returns-clause-right g c = λ sound.
    let bytes = g.D.Reader.Grip.Gripped.bytes in
    let s = c.state-state.result.now in
    let good : IsGoodState bytes s = subst (IsGoodState bytes) (sym c.state-state.ensures) sound.memory in
    subst (λ (core : Core _). IfOk c.read.result (IsRightScan bytes core.log (full core) c.args.ask.now)) c.state-state.ensures
    (IfOk-weaker c.read.result (IsReadOf s c.args.ask.now) (IsRightScan bytes s.log (full s) c.args.ask.now)
    (λ snapshot it. right_read bytes s c.args.ask.now snapshot c.told.ensures.order c.told.ensures.lawful good it) c.read.ensures.snapshot)
