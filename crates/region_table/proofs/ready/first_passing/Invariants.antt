use Rattle.std.proofs.Common.{◌≡◌}
use Rattle.region_table.specs.Applying.{is_in_part}
use Rattle.region_table.specs.Nexts.{first_below, first_passing, passes_in}
use Rattle.region_table.proofs.ready.first_passing.Given as goal

abbrev pub invariant-loop-position : goal.invariant-loop-position
invariant-loop-position l = first_below (passes_in l.logs l.regions.entries l.first (is_in_part l.wanted.part l.wanted.parts) l.wanted.below) l.wanted.below l.nexts.entries ≡ first_passing (passes_in l.logs l.regions.entries l.first (is_in_part l.wanted.part l.wanted.parts) l.wanted.below) l.position-iterator
