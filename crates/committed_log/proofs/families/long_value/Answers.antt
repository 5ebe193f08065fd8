use Rattle.std.proofs.Common.{ap, w64}
use Rattle.std.proofs.lemmas.Int.{to_z-of_z}
use Rattle.committed_log.specs.Families.{held}
use Rattle.committed_log.proofs.families.long_value.Goals as goal

pub returns-in-Some-Some : goal.returns-in-Some-Some
returns-in-Some-Some c = ap held (simp (to_z-of_z w64 _ c.ranges.handle) at (rw c.in-Some-Some.field-0-is at c.in-Some-Some.ensures))

pub returns-in-Some-None : goal.returns-in-Some-None
returns-in-Some-None c = ap held (simp (to_z-of_z w64 _ c.ranges.handle) at (rw c.in-Some-None.field-0-is at c.in-Some-None.ensures))

pub returns-in-None : goal.returns-in-None
returns-in-None c = ap held (simp (to_z-of_z w64 _ c.ranges.handle) at c.in-None.ensures)
