use Rattle.std.proofs.Common.{◌≡◌, ◌++◌, slice_range}
use Rattle.delta_layer.specs.Overlay.{picked, ArePlaces}
use Rattle.delta_layer.proofs.merge.add_run.Given as goal

abbrev pub invariant-loop-place : goal.invariant-loop-place
invariant-loop-place l = record {
  picked : picked l.all l.places.items ≡ picked l.all l.initial.places.items ++ slice_range l.all l.from l.place;
  places : ArePlaces l.all l.initial.places.items → ArePlaces l.all l.places.items;
}
