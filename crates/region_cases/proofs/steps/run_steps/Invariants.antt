use Rattle.region_table.specs.Table.{Agrees}
use Rattle.region_cases.proofs.steps.run_steps.Given as goal

abbrev pub invariant-loop-step : goal.invariant-loop-step
invariant-loop-step g l = Agrees l.logs l.table
