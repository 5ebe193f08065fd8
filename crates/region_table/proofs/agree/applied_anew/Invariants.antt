use Rattle.region_table.specs.Agreeing.{below}
use Rattle.region_table.specs.Counting.{applied_in}
use Rattle.region_table.specs.Table.{IsTableAt}
use Rattle.region_table.proofs.agree.applied_anew.Given as goal

abbrev pub invariant-loop-position : goal.invariant-loop-position
invariant-loop-position l = IsTableAt l.logs (below l.position (applied_in l.logs l.regions.entries)) l.table
