use Rattle.std.proofs.Common.{◌≡◌, ◌<◌, ◌++◌, map, drop, slice_get, Some, length, ℕ}
use Rattle.std.specs.List.{All}
use Rattle.version_gc.specs.Keep.{keep}
use Rattle.version_gc.proofs.keep.Given as goal

abbrev pub invariant-loop-i : goal.invariant-loop-i
invariant-loop-i l = (map (slice_get l.block) l.places.items ++ map Some (keep l.safe_point (drop l.i l.block)) ≡ map Some (keep l.safe_point l.block)) × All (λ (p : ℕ). p < length l.block) l.places.items
