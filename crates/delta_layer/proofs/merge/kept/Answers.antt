use Rattle.std.proofs.Common.{◌∙◌, ◌<◌, length, take, refl, sym, arith}
use Rattle.flash_types.specs.Ranges.{holds}
use Rattle.delta_layer.specs.Overlay.{stays, reached}
use Rattle.column_block.proofs.Ordered.{up_from_rises}
use Rattle.delta_layer.proofs.Places.{filter_step, places_if}
use Rattle.delta_layer.proofs.Sweeping.{stays_here, swept_more}
use Rattle.delta_layer.proofs.merge.kept.Goals as goal

pub loop-i-preserved : goal.loop-i-preserved
loop-i-preserved c =
    let all = c.args.all.now in
    let v = c.at-version.result.now in
    let lt : c.loop-i.i < c.args.count = omega arith in
    let lt' : c.loop-i.i < length all = omega (arith, c.requires.within) in
    let is = stays_here c.args.range c.args.ranges.now c.loop-i.rest.now c.swept-end.result.0.now c.loop-i.reach c.swept-end.result.1 all c.args.count c.loop-i.i v (holds c.args.range v.handle) (reached c.swept-end.result.1 v.handle) lt c.at-version.ensures (up_from_rises (take c.args.count all) c.requires.rising) c.loop-i.invariant.swept c.swept-end.ensures.here refl refl ∙ sym c.counts.ensures in
    record {
      picked = filter_step all (stays c.args.range c.args.ranges.now) c.loop-i.places.items c.loop-i.i v c.counts.result c.add_if.new.places.items c.at-version.ensures is c.loop-i.invariant.picked c.in_ok-add_if.ensures;
      places = places_if all c.loop-i.places.items c.add_if.new.places.items c.loop-i.i c.counts.result lt' c.in_ok-add_if.ensures c.loop-i.invariant.places;
      order = c.swept-end.ensures.order;
      swept = swept_more c.args.ranges.now c.loop-i.rest.now c.swept-end.result.0.now c.loop-i.reach c.swept-end.result.1 all c.loop-i.i v c.at-version.ensures c.loop-i.invariant.swept c.swept-end.ensures.above;
    }
