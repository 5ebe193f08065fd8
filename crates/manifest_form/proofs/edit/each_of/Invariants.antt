use Rattle.std.proofs.Common.{◌≡◌, ◌-◌}
use Rattle.flash_list.specs.Steps.{each_at}
use Rattle.flash_list.proofs.Each.{with_front}
use Rattle.manifest_form.specs.Edits.{file_at, each_file_at}
use Rattle.manifest_form.proofs.edit.each_of.Given as goal

abbrev pub invariant-loop : goal.invariant-loop
invariant-loop l = with_front l.files (each_at (file_at l.end) (λ _. tt {0}) (l.count - l.counter) (tt {0}) l.rest) ≡ each_file_at l.end l.count l.bytes
