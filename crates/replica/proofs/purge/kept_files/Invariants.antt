use Rattle.std.proofs.Common.{◌≡◌, take}
use Rattle.replica.specs.Purging.{needed_files}
use Rattle.replica.proofs.purge.kept_files.Given as goal

abbrev pub invariant-loop-it : goal.invariant-loop-it
invariant-loop-it l = l.files.items ≡ needed_files l.kept_from (take l.it-index l.retired)
