use Rattle.std.proofs.Common.{◌≡◌, drop}
use Rattle.segment_install.specs.Stale.{first_fault}
use Rattle.segment_install.proofs.staleness.fault_in.Given as goal

abbrev pub invariant-loop-i : goal.invariant-loop-i
invariant-loop-i g l = first_fault l.list (drop l.i l.views) ≡ first_fault l.list l.views
