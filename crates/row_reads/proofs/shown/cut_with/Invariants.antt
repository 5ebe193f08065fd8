use Rattle.std.proofs.Common.{◌≡◌, find, drop}
use Rattle.flash_types.specs.Ranges.{holds}
use Rattle.flash_types.specs.declared.refusal.Cut.{Cut}
use Rattle.row_reads.proofs.shown.cut_with.Given as goal

abbrev pub invariant-loop-cut : goal.invariant-loop-cut
invariant-loop-cut l = find (λ (cut : Cut). holds cut.range l.handle) (drop l.cut-index l.cuts) ≡ find (λ (cut : Cut). holds cut.range l.handle) l.cuts
