use Rattle.std.proofs.Common.{◌≡◌, ℕ, map, take}
use Rattle.std.specs.Prelude.{◌||◌}
use Rattle.std.specs.BTreeSet.{contains}
use Rattle.std.specs.List.{list_any}
use Rattle.std.specs.Ordering.{nat_cmp}
use Rattle.replica_store.specs.Naming.{is_file_of}
use Rattle.replica_store.proofs.strays.note_segments.Given as goal

abbrev pub invariant-loop-segment : goal.invariant-loop-segment
invariant-loop-segment l = (f : ℕ) → contains nat_cmp l.known f
    ≡ (list_any (is_file_of f) (map (λ segment. segment.now) (take l.segment-index l.segments)) || contains nat_cmp l.initial.known f)
