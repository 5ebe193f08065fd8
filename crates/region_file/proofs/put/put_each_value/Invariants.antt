use Rattle.region_file.proofs.Going.{Going}
use Rattle.region_file.specs.Spelling as spelling
use Rattle.region_file.specs.Spelling.{ValueFits}
use Rattle.region_file.proofs.put.put_each_value.Given as goal

abbrev pub invariant-loop-key : goal.invariant-loop-key
invariant-loop-key l = Going spelling.value ValueFits l.region.values l.initial.into.items l.key-iterator l.into.items
