use Rattle.std.proofs.Common.{◌≡◌, drop}
use Rattle.flash_list.proofs.Each.{with_front}
use Rattle.stable_file.specs.Steps.{one_for_each}
use Rattle.stable_file.specs.Footer as footer
use Rattle.stable_file.proofs.footer.ranges_of.Given as goal

abbrev pub invariant-loop-column : goal.invariant-loop-column
invariant-loop-column l = with_front l.ranges (one_for_each (footer.range_at l.end) (drop l.column-index l.columns) l.rest) ≡ one_for_each (footer.range_at l.end) l.columns l.bytes
