use Rattle.std.proofs.Common.{◌∙◌, ap, drop}
use Rattle.delta_layer.specs.Overlay.{any_holds, merged, picked}
use Rattle.column_block.proofs.Ordered.{up_from_rises}
use Rattle.delta_layer.proofs.Overlaid.{overlay_is}
use Rattle.delta_layer.proofs.presence.present_above.Goals as goal

pub returns : goal.returns
returns c =
    let all = c.in_ok-all.all in
    overlay_is c.args.range c.args.stable c.in_ok-news.news all c.in_ok-versions.versions c.args.delta.now c.as_slice.result.now c.in_ok-olds.olds.items c.in_ok-places.places.items c.len-count.result
    (up_from_rises c.args.stable c.requires) c.len-count.ensures c.in_ok-news.ensures c.in_ok-all.ensures
    (λ h. ap (λ rs. any_holds rs h) c.as_slice.ensures.value ∙ c.in_ok-ranges.ensures.same h)
    c.in_ok-olds.ensures.picked
    (c.in_ok-places.ensures.picked ∙ ap (λ ps. merged (picked all ps) (drop c.len-count.result all)) c.as_slice-2.ensures.value)
    (c.in_ok-versions.ensures ∙ ap (picked all) c.as_slice-3.ensures.value)
