use Rattle.std.proofs.Common.{◌≡◌, ◌≤◌, ◌+◌, drop}
use Rattle.std.specs.Prelude.{max}
use Rattle.std.specs.List.{prefix_len}
use Rattle.delta_layer.specs.Files.{is_tiny}
use Rattle.segment_due.specs.Infos.{longest_run}
use Rattle.segment_due.proofs.info.longest_run.Given as goal

abbrev pub invariant-loop-i : goal.invariant-loop-i
invariant-loop-i l = record {
  within : l.run ≤ l.i;
  best : l.run ≤ l.longest;
  rest : longest_run l.layer ≡ max l.longest (max (l.run + prefix_len is_tiny (drop l.i l.layer)) (longest_run (drop l.i l.layer)));
}
