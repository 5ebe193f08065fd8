use Rattle.std.proofs.Common.{rules}
use Rattle.turnstile.proofs.Sits.{of_first}
use Rattle.turnstile.proofs.turn.Turn.take.Goals as goal

pub returns-clause-from_start : goal.returns-clause-from_start
returns-clause-from_start g c = of_first g.row.V.Denot (g.V.Held.follows c.win.result) c.seat.inside.inner.me.0.seen c.args.self.now.start (search rules) c.win.ensures.won.2.0
