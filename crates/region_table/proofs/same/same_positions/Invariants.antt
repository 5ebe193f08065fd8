use Rattle.region_file.proofs.Alike.{AreAlike}
use Rattle.region_table.proofs.same.same_positions.Given as goal

abbrev pub invariant-loop-position : goal.invariant-loop-position
invariant-loop-position l = AreAlike l.position-iterator l.others l.a.entries l.b.entries
