use Rattle.std.proofs.Common.{◌≡◌, false, take}
use Rattle.install_edits.specs.Edits.{has_number}
use Rattle.install_edits.proofs.changes.has_number.Given as goal

abbrev pub invariant-loop-i : goal.invariant-loop-i
invariant-loop-i g l = has_number l.id (take l.i l.slots) ≡ false
