use Rattle.std.proofs.Common.{◌≡◌}
use Rattle.region_table.specs.Live.{first_asked, next_there}
use Rattle.region_table.proofs.live.first_above.Given as goal

abbrev pub invariant-loop-id : goal.invariant-loop-id
invariant-loop-id l = next_there l.regions.entries l.fn.after ≡ first_asked l.id-iterator
