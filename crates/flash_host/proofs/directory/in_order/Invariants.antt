use Rattle.std.proofs.Common.{◌≡◌, ◌++◌}
use Rattle.flash_host.proofs.directory.in_order.Given as goal

abbrev pub invariant-loop-file : goal.invariant-loop-file
invariant-loop-file l = l.list.items ++ l.file-iterator ≡ l.fn.numbers.keys
