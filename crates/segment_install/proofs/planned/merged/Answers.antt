use Rattle.std.proofs.Common.{◌≡◌, ◌∙◌, ap, List, [], ◌∷◌, length, get_or}
use Rattle.std.proofs.lemmas.Result.{IfOk-weaker}
use Rattle.delta_layer.specs.declared.view.SegmentView.{SegmentView}
use Rattle.segment_install.specs.Plans.{IsMerged}
use Rattle.segment_install.proofs.News.{merged_news}
use Rattle.segment_install.proofs.planned.merged.Goals as goal

pub returns : goal.returns
returns g c =
    let taken : c.files-taken.result ≡ length c.requires.built.view.delta = c.files-taken.ensures ∙ ap (λ (vs : List (SegmentView g.row.G.Denot)). length (get_or vs 0 c.index-as_slice-0.result).delta) (c.as_slice.ensures ∙ c.requires.built.views) in
    IfOk-weaker c.one.result (λ news. news.items ≡ c.in_ok-new.new ∷ []) (λ news. IsMerged c.args.first c.args.files c.args.built.now c.args.slot.now news.items)
    (λ news are. merged_news c.args.first c.args.files c.args.built.now c.args.slot.now c.requires.built c.files-taken.result c.part_of.result c.in_ok-new.new news.items taken c.part_of.ensures c.in_ok-new.ensures are) c.one.ensures
