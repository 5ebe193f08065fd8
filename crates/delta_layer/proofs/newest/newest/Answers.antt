use Rattle.std.proofs.Common.{◌≡◌, ◌∙◌, false, ap, sym, subst, rules, SFits, w64}
use Rattle.std.proofs.lemmas.Int.{to_z-of_z}
use Rattle.delta_index.specs.Indexes.{IsFirstFrom}
use Rattle.flash_types.specs.Ranges.{is_below}
use Rattle.delta_layer.proofs.Overlaid.{news_step}
use Rattle.delta_layer.proofs.Windows.{ends, starts}
use Rattle.delta_layer.proofs.newest.newest.Goals as goal

pub loop-k-init : goal.loop-k-init
loop-k-init c =
    let fits : SFits w64 c.args.range.low = search rules in
    c.new-news.ensures ∙ starts c.args.delta.now c.args.range c.index-index.result.now c.first_from-k.result c.index-index.ensures (subst (λ low. IsFirstFrom low c.index-index.result.now c.first_from-k.result) (to_z-of_z w64 c.args.range.low fits) c.first_from-k.ensures)

pub returns-then-not-is_below : goal.returns-then-not-is_below
returns-then-not-is_below c =
    let fits : SFits w64 c.at-row.result.handle = search rules in
    let past : is_below c.at-row.result.handle c.args.range.high ≡ false = ap (λ h. is_below h c.args.range.high) (sym (to_z-of_z w64 c.at-row.result.handle fits)) ∙ sym c.is_below.ensures ∙ c.if-not-is_below.true in
    c.loop-k.invariant ∙ ends c.args.delta.now c.args.range c.index-index.result.now c.loop-k.k ((c.at-row.result.handle, c.at-row.result.ts), (c.at-row.result.number, c.at-row.result.row)) c.index-index.ensures c.len-k-end.ensures.rising c.at-row.ensures past

pub loop-k-preserved : goal.loop-k-preserved
loop-k-preserved c = news_step c.args.delta.now c.args.range c.index-index.result.now c.loop-k.k ((c.at-row.result.handle, c.at-row.result.ts), (c.at-row.result.number, c.at-row.result.row)) c.loop-k.news c.add_within.new.news c.index-index.ensures c.at-row.ensures c.loop-k.invariant c.in_ok-add_within.ensures
