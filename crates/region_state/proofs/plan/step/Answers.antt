use Rattle.std.proofs.lemmas.Result.{on_ok_weaker}
use Rattle.region_state.proofs.plan.step.Goals as goal

pub returns-in-Value-clause-stands : goal.returns-in-Value-clause-stands
returns-in-Value-clause-stands c = on_ok_weaker c.change_value.result (λ stands. stands c.args.values.now.entries) c.change_value.ensures

pub returns-in-DropValue-clause-stands : goal.returns-in-DropValue-clause-stands
returns-in-DropValue-clause-stands c = on_ok_weaker c.change_value-in-DropValue.result (λ stands. stands c.args.values.now.entries) c.change_value-in-DropValue.ensures
