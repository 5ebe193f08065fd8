use Rattle.std.proofs.Common.{◌≡◌, ◌∙◌, sym, ap, true, not, arith, pos}
use Rattle.std.specs.Bool.{◌==◌}
use Rattle.std.specs.Ordering.{ordering_index}
use Rattle.std.specs.declared.cmp.Ordering.TheVariants.{Less}
use Rattle.delta_index.proofs.Parts.{cut_here}
use Rattle.delta_index.proofs.change.below.Goals as goal

pub returns-then-ne : goal.returns-then-ne
returns-then-ne c =
    cut_here c.args.next.now.0 c.args.news.now c.loop-n.n ((pos 0, 0), (0, 0)) c.requires (omega arith) c.loop-n.invariant
    (λ is.
    let told : true ≡ not (ordering_index Less == 0) = sym c.if-ne.true ∙ c.ne.ensures ∙ ap (λ r. not (ordering_index r == 0)) (c.cmp.ensures ∙ is) in
    cc told)
