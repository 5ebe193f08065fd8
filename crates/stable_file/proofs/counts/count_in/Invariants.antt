use Rattle.std.proofs.Common.{◌≡◌, take}
use Rattle.stable_file.specs.Opened.{count_in}
use Rattle.stable_file.proofs.counts.count_in.Given as goal

abbrev pub invariant-loop-pack : goal.invariant-loop-pack
invariant-loop-pack l = l.total ≡ count_in l.range (take l.pack-index l.packs)
