use Rattle.std.proofs.Common.{◌≡◌, take}
use Rattle.delta_layer.specs.Files.{index_of}
use Rattle.delta_layer.specs.Overlay.{in_range, placed}
use Rattle.delta_layer.proofs.newest.newest.Given as goal

abbrev pub invariant-loop-k : goal.invariant-loop-k
invariant-loop-k l = l.news ≡ placed l.delta (in_range l.range (take l.k (index_of l.delta)))
