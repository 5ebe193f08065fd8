use Rattle.std.proofs.Common.{take}
use Rattle.std.specs.BTreeMap.{get}
use Rattle.std.specs.Ordering.{nat_cmp}
use Rattle.script_rounds.specs.Building.{HasReads}
use Rattle.script_rounds.proofs.build.add_reads.Given as goal

abbrev pub invariant-loop-i : goal.invariant-loop-i
invariant-loop-i l = HasReads l.end (take l.i l.reads) (get nat_cmp l.fn.rounds) (get nat_cmp l.rounds)
