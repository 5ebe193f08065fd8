use Rattle.std.proofs.Common.{◌≡◌, [], take}
use Rattle.delta_index.specs.Indexes.{extended}
use Rattle.delta_index.proofs.gather.newest.Given as goal

abbrev pub invariant-loop-row : goal.invariant-loop-row
invariant-loop-row l = l.found.entries ≡ extended [] l.number (take l.row l.block)
