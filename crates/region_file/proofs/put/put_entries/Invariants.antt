use Rattle.region_file.proofs.Going.{Going}
use Rattle.region_file.specs.Spelling as spelling
use Rattle.region_file.specs.Spelling.{EntryFits}
use Rattle.region_file.proofs.put.put_entries.Given as goal

abbrev pub invariant-loop-id : goal.invariant-loop-id
invariant-loop-id l = Going spelling.entry EntryFits l.entries.entries l.initial.into.items l.id-iterator l.into.items
