use Rattle.std.proofs.Common.{◌≡◌, ◌++◌, take, drop}
use Rattle.std.specs.BTreeMap.{is_at}
use Rattle.std.specs.Map.{remove_entry}
use Rattle.row_store.proofs.sorted.drop_entry.Given as goal

abbrev pub invariant-loop-i : goal.invariant-loop-i
invariant-loop-i g l = record {
  same : l.entries.items ≡ l.fn.entries.items;
  rest : remove_entry (is_at (g.K.Ord.cmp l.key)) l.fn.entries.items ≡ take l.i l.fn.entries.items ++ remove_entry (is_at (g.K.Ord.cmp l.key)) (drop l.i l.fn.entries.items);
}
