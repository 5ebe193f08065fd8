use Rattle.std.proofs.Common.{◌≡◌, ◌++◌, fold, arith}
use Rattle.std.proofs.lemmas.Result.{IfOk-weaker}
use Rattle.delta_index.specs.Chunks.{flat}
use Rattle.delta_index.specs.Indexes.{put}
use Rattle.delta_index.proofs.Parts.{at_end}
use Rattle.delta_index.proofs.change.extended_by.Goals as goal

pub returns : goal.returns
returns c =
    IfOk-weaker c.with_all.result (λ all. flat all ≡ flat c.loop-j.out ++ c.loop-j.news.now) (λ all. flat all ≡ fold put (flat c.args.old.now) c.args.file.now)
    (λ all is. at_end c.args.old.now c.loop-j.j (flat c.loop-j.out) c.loop-j.news.now (fold put (flat c.args.old.now) c.args.file.now) (flat all) (omega arith) c.loop-j.invariant.made c.loop-j.invariant.rising is)
    c.with_all.ensures
