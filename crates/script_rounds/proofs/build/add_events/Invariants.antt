use Rattle.std.proofs.Common.{take}
use Rattle.std.specs.BTreeMap.{get}
use Rattle.std.specs.Ordering.{nat_cmp}
use Rattle.script_rounds.specs.Building.{HasEvents}
use Rattle.script_rounds.proofs.build.add_events.Given as goal

abbrev pub invariant-loop-i : goal.invariant-loop-i
invariant-loop-i l = HasEvents l.end (take l.i l.events) (get nat_cmp l.fn.rounds) (get nat_cmp l.rounds)
