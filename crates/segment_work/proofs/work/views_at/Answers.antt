use Rattle.std.proofs.Common.{◌≡◌, ◌∙◌, sym, ap, ◌<◌, List, [], ◌∷◌, ◌++◌, length, arith}
use Rattle.delta_layer.specs.declared.view.SegmentView.{SegmentView}
use Rattle.segment_list.specs.Slots.{view_of}
use Rattle.segment_work.proofs.RunPlaces.{views_more}
use Rattle.segment_work.proofs.work.views_at.Goals as goal

pub loop-i-preserved : goal.loop-i-preserved
loop-i-preserved g c =
    let within : c.loop-i.i < length c.args.slots.now = omega (arith, c.loop-i-test.true, c.requires) in
    c.in_ok-add_view.ensures
    ∙ ap (λ (vs : List (SegmentView g.row.G.Denot)). vs ++ view_of c.index-slots-i.result ∷ []) c.loop-i.invariant
    ∙ sym (views_more c.args.slots.now c.args.place c.loop-i.i c.index-slots-i.result c.loop-i.auto.i within c.index-slots-i.is)
