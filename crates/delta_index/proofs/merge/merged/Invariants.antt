use Rattle.std.proofs.Common.{◌≡◌, ◌+◌, ◌++◌, fold, length}
use Rattle.delta_index.specs.Indexes.{put, AreRising}
use Rattle.delta_index.proofs.merge.merged.Given as goal

abbrev pub invariant-loop-next : goal.invariant-loop-next
invariant-loop-next l = record {
  made : l.all.items ++ fold put l.olds l.news ≡ fold put l.fn.old l.fn.new;
  rising : AreRising l.news;
}

abbrev pub decreases-loop-next : goal.decreases-loop-next
decreases-loop-next l = length l.olds + length l.news
