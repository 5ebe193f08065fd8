use Rattle.std.proofs.Common.{◌<◌, length, sym, subst, arith}
use Rattle.delta_layer.specs.Overlay.{ArePlaces}
use Rattle.delta_layer.proofs.Places.{run_step, places_more}
use Rattle.delta_layer.proofs.merge.add_run.Goals as goal

pub loop-place-preserved : goal.loop-place-preserved
loop-place-preserved c = record {
  picked = run_step c.args.all.now c.args.places.now.items c.loop-place.places.items c.add_place.new.places.items c.args.from c.loop-place.place (omega arith) c.loop-place.invariant.picked c.in_ok-add_place.ensures;
  places = λ are.
      let lt : c.loop-place.place < length c.args.all.now = omega arith in
      subst (ArePlaces c.args.all.now) (sym c.in_ok-add_place.ensures) (places_more c.args.all.now c.loop-place.places.items c.loop-place.place lt (c.loop-place.invariant.places are));
}
