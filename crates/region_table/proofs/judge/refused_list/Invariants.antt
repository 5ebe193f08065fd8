use Rattle.std.proofs.Common.{◌≡◌, take}
use Rattle.region_table.specs.Judging.{refused_list}
use Rattle.region_table.proofs.judge.refused_list.Given as goal

abbrev pub invariant-loop-one : goal.invariant-loop-one
invariant-loop-one l = l.why ≡ refused_list l.logs l.regions.entries l.ts l.mark (take l.one-index l.asked)
