use Rattle.std.proofs.Common.{◌<◌, length, drop, get_or, arith}
use Rattle.delta_layer.specs.Overlay.{merged, picked}
use Rattle.delta_layer.proofs.Packing.{some_at}
use Rattle.delta_layer.proofs.Places.{merge_step, one_item}
use Rattle.delta_layer.proofs.merge.merged.Goals as goal

pub loop-old-preserved : goal.loop-old-preserved
loop-old-preserved c =
    let all = c.args.all.now in
    let olds = c.args.olds.now in
    let i = c.loop-old.old-index in
    let lt : c.loop-old.old-index < length c.args.olds.now = omega arith in
    let old = get_or olds i 0 in
    let v = some_at all old (c.requires.olds i 0 lt) in
    record {
      picked = merge_step all (merged (picked all olds) (drop c.args.start all)) olds c.loop-old.places.items c.add_both.new.places.items i c.loop-old.k c.in_ok-k.k old v.0 (one_item olds i 0 lt) v.1 (c.in_ok-k.ensures.next v.0 v.1) c.loop-old.invariant.picked (c.in_ok-k.ensures.picked v.0 v.1);
      within = c.in_ok-k.ensures.within;
      places = c.in_ok-k.ensures.places c.loop-old.invariant.places;
    }
