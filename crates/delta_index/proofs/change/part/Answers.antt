use Rattle.std.proofs.Common.{refl, length, arith, pos}
use Rattle.delta_index.proofs.Parts.{last_part, cut_part}
use Rattle.delta_index.proofs.change.part.Goals as goal

pub returns-then-count-j-eq1 : goal.returns-then-count-j-eq1
returns-then-count-j-eq1 c =
    last_part c.args.old.now c.args.j (length c.args.news.now) c.args.news.now c.split_at.result.0.now c.split_at.result.1.now c.requires.chunk (omega (arith, c.count.ensures, c.if-count-j-eq1.true)) c.requires.news refl c.split_at.ensures.front c.split_at.ensures.back

pub returns : goal.returns
returns c =
    cut_part c.args.old.now c.args.j c.below.result c.args.news.now c.split_at-2.result.0.now c.split_at-2.result.1.now c.chunk.result.now ((pos 0, 0), (0, 0)) (omega (arith, c.count.ensures, c.if-count-j-eq1.false, c.requires.chunk)) c.requires.old c.requires.news c.chunk.ensures.same c.chunk.ensures.sized.some c.below.ensures c.split_at-2.ensures.front c.split_at-2.ensures.back
