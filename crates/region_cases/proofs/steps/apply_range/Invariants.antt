use Rattle.region_table.specs.Table.{Agrees}
use Rattle.region_cases.proofs.steps.apply_range.Given as goal

abbrev pub invariant-loop-position : goal.invariant-loop-position
invariant-loop-position g l = Agrees l.logs l.table
