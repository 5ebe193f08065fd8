use Rattle.std.proofs.Common.{◌≡◌, ◌++◌, drop, fold}
use Rattle.delta_index.specs.Chunks.{flat}
use Rattle.delta_index.specs.Indexes.{put, AreRising}
use Rattle.delta_index.proofs.change.extended_by.Given as goal

abbrev pub invariant-loop-j : goal.invariant-loop-j
invariant-loop-j l = record {
  made : flat l.out ++ fold put (flat (drop l.j l.old)) l.news ≡ fold put (flat l.old) l.file;
  rising : AreRising l.news;
}
