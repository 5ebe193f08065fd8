use Rattle.std.proofs.Common.{◌≡◌, take}
use Rattle.log_file.specs.Values.{columns_of}
use Rattle.log_file.proofs.value.columns_of.Given as goal

abbrev pub invariant-loop-spec : goal.invariant-loop-spec
invariant-loop-spec l = l.columns.items ≡ columns_of (take l.spec-index l.specs)
