use Rattle.std.proofs.Common.{◌≡◌, take}
use Rattle.std.specs.List.{filter_map}
use Rattle.std.specs.Map.{keys_of}
use Rattle.committed_log.specs.Reads.{row_of_handle}
use Rattle.row_reads.proofs.shown.rows.Given as goal

abbrev pub invariant-loop-entry : goal.invariant-loop-entry
invariant-loop-entry l = l.found.items ≡ filter_map (row_of_handle l.log l.cuts l.ts l.clip) (keys_of (take l.entry-index l.entry-items))
