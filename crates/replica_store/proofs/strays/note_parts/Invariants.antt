use Rattle.std.proofs.Common.{◌≡◌, ℕ, take}
use Rattle.std.specs.Prelude.{◌||◌}
use Rattle.std.specs.BTreeSet.{contains}
use Rattle.std.specs.List.{list_any}
use Rattle.std.specs.Ordering.{nat_cmp}
use Rattle.replica_store.specs.Naming.{is_tiny_file}
use Rattle.replica_store.proofs.strays.note_parts.Given as goal

abbrev pub invariant-loop-part : goal.invariant-loop-part
invariant-loop-part l = (f : ℕ) → contains nat_cmp l.known f ≡ (list_any (is_tiny_file f) (take l.part-index l.parts) || contains nat_cmp l.initial.known f)
