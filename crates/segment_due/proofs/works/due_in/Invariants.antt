use Rattle.std.proofs.Common.{◌≡◌, drop, map}
use Rattle.segment_due.specs.Infos.{info_of}
use Rattle.segment_due.specs.Works.{due_of}
use Rattle.segment_due.proofs.works.due_in.Given as goal

abbrev pub invariant-loop-i : goal.invariant-loop-i
invariant-loop-i g l = due_of l.settings (map info_of l.slots) ≡ due_of l.settings (map info_of (drop l.i l.slots))
