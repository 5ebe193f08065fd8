use Rattle.std.proofs.Common.{◌≡◌, ◌∙◌, ◌+◌, ap, List, [], ◌∷◌, length, get_or}
use Rattle.std.proofs.lemmas.Result.{IfOk-weaker}
use Rattle.delta_layer.specs.declared.built.Piece.{Piece}
use Rattle.delta_layer.specs.declared.view.SegmentView.{SegmentView}
use Rattle.segment_install.specs.Plans.{IsJoined}
use Rattle.segment_install.specs.Slots.{joined_slot}
use Rattle.segment_install.proofs.News.{joined_news}
use Rattle.segment_install.proofs.planned.joined.Goals as goal

pub returns : goal.returns
returns g c =
    let low : c.files-low_taken.result ≡ length c.requires.built.left.delta = c.files-low_taken.ensures ∙ ap (λ (vs : List (SegmentView g.row.G.Denot)). length (get_or vs 0 c.index-views-0.result).delta) (c.as_slice-views.ensures ∙ c.requires.built.views) in
    let high : c.files-high_taken.result ≡ length c.requires.built.right.delta = c.files-high_taken.ensures ∙ ap (λ (vs : List (SegmentView g.row.G.Denot)). length (get_or vs 1 c.index-views-1.result).delta) (c.as_slice-views.ensures ∙ c.requires.built.views) in
    let new : c.in_ok-new.new ≡ joined_slot (c.args.first + 1) c.requires.built.piece.range c.part_of-part.result c.files-low_taken.result c.args.left.now c.files-high_taken.result c.args.right.now =
    c.in_ok-new.ensures ∙ ap (λ (ps : List Piece). joined_slot (c.args.first + 1) (get_or ps 0 c.index-as_slice-0.result).range c.part_of-part.result c.files-low_taken.result c.args.left.now c.files-high_taken.result c.args.right.now) (c.as_slice.ensures ∙ c.requires.built.pieces) in
    IfOk-weaker c.one.result (λ news. news.items ≡ c.in_ok-new.new ∷ []) (λ news. IsJoined c.args.first c.args.files c.args.built.now c.args.left.now c.args.right.now news.items)
    (λ news are. joined_news c.args.first c.args.files c.args.built.now c.args.left.now c.args.right.now c.requires.built c.files-low_taken.result c.files-high_taken.result c.part_of-part.result c.in_ok-new.new news.items low high c.part_of-part.ensures new are) c.one.ensures
