use Rattle.std.proofs.Common.{◌≡◌, ◌≤◌, ◌++◌, length, drop}
use Rattle.delta_layer.specs.Overlay.{merged, picked, ArePlaces}
use Rattle.delta_layer.proofs.merge.merged.Given as goal

abbrev pub invariant-loop-old : goal.invariant-loop-old
invariant-loop-old l = record {
  picked : picked l.all l.places.items ++ merged (picked l.all (drop l.old-index l.olds)) (drop l.k l.all) ≡ merged (picked l.all l.olds) (drop l.start l.all);
  within : l.k ≤ length l.all;
  places : ArePlaces l.all l.places.items;
}
