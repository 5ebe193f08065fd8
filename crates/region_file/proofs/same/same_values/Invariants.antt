use Rattle.region_file.proofs.Alike.{AreAlike}
use Rattle.region_file.proofs.same.same_values.Given as goal

abbrev pub invariant-loop-key : goal.invariant-loop-key
invariant-loop-key l = AreAlike l.key-iterator l.others l.a.values l.b.values
