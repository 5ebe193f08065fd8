use Rattle.std.proofs.Common.{◌≡◌, take, filter}
use Rattle.delta_layer.specs.Overlay.{picked, stays, AreByLow, ArePlaces}
use Rattle.delta_layer.proofs.Sweeping.{IsSweptAt}
use Rattle.delta_layer.proofs.merge.kept.Given as goal

abbrev pub invariant-loop-i : goal.invariant-loop-i
invariant-loop-i l = record {
  picked : picked l.all l.places.items ≡ filter (stays l.range l.ranges) (take l.i l.all);
  places : ArePlaces l.all l.places.items;
  order : AreByLow l.rest;
  swept : IsSweptAt l.ranges (take l.i l.all) l.rest l.reach;
}
