use Rattle.std.proofs.Common.{◌≡◌, ℕ, take}
use Rattle.std.specs.Prelude.{◌||◌}
use Rattle.std.specs.BTreeSet.{contains}
use Rattle.std.specs.Ordering.{nat_cmp}
use Rattle.replica_store.specs.Naming.{is_among}
use Rattle.replica_store.proofs.strays.note_all.Given as goal

abbrev pub invariant-loop-file : goal.invariant-loop-file
invariant-loop-file l = (f : ℕ) → contains nat_cmp l.known f ≡ (is_among (take l.file-index l.files) f || contains nat_cmp l.initial.known f)
