use Rattle.std.proofs.Common.{◌≡◌, ◌-◌}
use Rattle.flash_list.specs.Steps.{each_at}
use Rattle.flash_list.proofs.Each.{with_front}
use Rattle.manifest_form.specs.Header.{column_at, columns_at, above}
use Rattle.manifest_form.proofs.header.columns_of.Given as goal

abbrev pub invariant-loop : goal.invariant-loop
invariant-loop l = with_front l.columns (each_at (column_at l.stop) above (l.count - l.counter) l.least l.rest) ≡ columns_at l.stop l.count l.bytes
