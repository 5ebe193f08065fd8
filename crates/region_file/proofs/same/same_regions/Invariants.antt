use Rattle.region_file.proofs.Alike.{AreAlike}
use Rattle.region_file.proofs.same.same_regions.Given as goal

abbrev pub invariant-loop-id : goal.invariant-loop-id
invariant-loop-id l = AreAlike l.id-iterator l.others l.a.entries l.b.entries
