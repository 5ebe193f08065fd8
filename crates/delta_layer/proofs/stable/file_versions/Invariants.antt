use Rattle.std.proofs.Common.{◌≡◌, true, take, Ok}
use Rattle.stable_file.specs.Opened.{packs_of, schema_of, grip_of}
use Rattle.column_block.specs.Order.{rises}
use Rattle.delta_layer.specs.Stable.{packs_in}
use Rattle.delta_layer.proofs.stable.file_versions.Given as goal

abbrev pub invariant-loop-k : goal.invariant-loop-k
invariant-loop-k g l = record {
  rising : rises l.all ≡ true;
  exact : g.R.Grip.Gripped.tells → packs_in (schema_of l.file) (g.R.Grip.Gripped.bytes (grip_of l.file)) (take l.k (packs_of l.file)) ≡ Ok l.all;
  quiet : g.R.Reader.fault_count l.reader ≡ g.R.Reader.fault_count l.initial.reader;
}
