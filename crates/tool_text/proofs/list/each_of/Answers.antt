use Rattle.tool_text.proofs.Eaches.{one_more, fails_here, is_all}
use Rattle.tool_text.proofs.list.each_of.Goals as goal

pub returns-in-Err : goal.returns-in-Err
returns-in-Err g c = fails_here g.T.FromJson.reading c.args.values.now c.loop-place.place c.index-values-place.result c.loop-place.items c.in-Err.misfit c.at_place.result c.loop-place-test.true c.index-values-place.is c.in-Err.ensures c.at_place.ensures c.loop-place.invariant

pub loop-place-preserved : goal.loop-place-preserved
loop-place-preserved g c = rw c.in-Ok-push.ensures.ok (one_more g.T.FromJson.reading c.args.values.now c.loop-place.place c.index-values-place.result c.loop-place.items c.in-Ok.item c.loop-place-test.true c.index-values-place.is c.in-Ok.ensures c.loop-place.invariant)

pub returns : goal.returns
returns g c = is_all g.T.FromJson.reading c.args.values.now c.loop-place.place c.loop-place.items c.loop-place-test.false c.loop-place.invariant
