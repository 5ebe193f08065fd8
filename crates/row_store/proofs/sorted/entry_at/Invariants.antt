use Rattle.std.proofs.Common.{◌≡◌, drop}
use Rattle.std.specs.BTreeMap.{is_at}
use Rattle.std.specs.Map.{lookup}
use Rattle.row_store.proofs.sorted.entry_at.Given as goal

abbrev pub invariant-loop-entry : goal.invariant-loop-entry
invariant-loop-entry g l = lookup (is_at (g.K.Ord.cmp l.key)) (drop l.entry-index l.entries) ≡ lookup (is_at (g.K.Ord.cmp l.key)) l.entries
