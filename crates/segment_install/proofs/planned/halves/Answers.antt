use Rattle.std.proofs.Common.{◌≡◌, ◌∙◌, ◌+◌, ap, List, [], ◌∷◌, length, get_or}
use Rattle.std.proofs.lemmas.Result.{IfOk-weaker}
use Rattle.delta_layer.specs.declared.built.Piece.{Piece}
use Rattle.delta_layer.specs.declared.view.SegmentView.{SegmentView}
use Rattle.segment_install.specs.Plans.{AreHalves}
use Rattle.segment_install.specs.Slots.{half_slot}
use Rattle.segment_install.proofs.News.{halves_news}
use Rattle.segment_install.proofs.planned.halves.Goals as goal

pub returns : goal.returns
returns g c =
    let taken : c.files-taken.result ≡ length c.requires.built.view.delta = c.files-taken.ensures ∙ ap (λ (vs : List (SegmentView g.row.G.Denot)). length (get_or vs 0 c.index-as_slice-0.result).delta) (c.as_slice.ensures ∙ c.requires.built.views) in
    let low : c.in_ok-left.left ≡ half_slot (c.args.first + 2) c.requires.built.low.range c.part_of-lower.result c.files-taken.result c.args.slot.now =
    c.in_ok-left.ensures ∙ ap (λ (ps : List Piece). half_slot (c.args.first + 2) (get_or ps 0 c.index-pieces-0.result).range c.part_of-lower.result c.files-taken.result c.args.slot.now) (c.as_slice-pieces.ensures ∙ c.requires.built.pieces) in
    let high : c.in_ok-right.right ≡ half_slot (c.args.first + 3) c.requires.built.high.range c.part_of-upper.result c.files-taken.result c.args.slot.now =
    c.in_ok-right.ensures ∙ ap (λ (ps : List Piece). half_slot (c.args.first + 3) (get_or ps 1 c.index-pieces-1.result).range c.part_of-upper.result c.files-taken.result c.args.slot.now) (c.as_slice-pieces.ensures ∙ c.requires.built.pieces) in
    IfOk-weaker c.two.result (λ news. news.items ≡ c.in_ok-left.left ∷ c.in_ok-right.right ∷ []) (λ news. AreHalves c.args.first c.args.files c.args.built.now c.args.slot.now news.items)
    (λ news are. halves_news c.args.first c.args.files c.args.built.now c.args.slot.now c.requires.built c.files-taken.result c.part_of-lower.result c.part_of-upper.result c.in_ok-left.left c.in_ok-right.right news.items taken c.part_of-lower.ensures c.part_of-upper.ensures low high are) c.two.ensures
