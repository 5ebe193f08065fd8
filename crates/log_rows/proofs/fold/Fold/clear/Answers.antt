use Rattle.log_rows.proofs.Knowing.{holds_cleared}
use Rattle.log_rows.proofs.fold.Fold.clear.Goals as goal

pub returns-clause-holds : goal.returns-clause-holds
returns-clause-holds c = λ s holds.
    let self = c.args.self.now in
    holds_cleared self.ts c.args.range s self.values c.clear_values.new.values self.handles c.clear_handles.new.handles holds c.clear_values.ensures c.clear_handles.ensures
