use Rattle.std.proofs.Common.{◌≡◌, map, slice_get, Some}
use Rattle.learner_read.proofs.Places.{first_rows}
use Rattle.learner_read.proofs.rows.shown.Given as goal

abbrev pub invariant-loop-i : goal.invariant-loop-i
invariant-loop-i l = map (slice_get l.block) l.places.items ≡ map Some (first_rows l.ts l.clip l.cuts l.block l.i)
