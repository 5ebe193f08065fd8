use Rattle.std.proofs.Common.{◌≡◌, ◌++◌, take, drop}
use Rattle.std.specs.BTreeMap.{insert_entry}
use Rattle.row_store.proofs.sorted.place_of.Given as goal

abbrev pub invariant-loop-i : goal.invariant-loop-i
invariant-loop-i g l = (v : g.row.V.Denot) → insert_entry g.K.Ord.cmp l.entries l.key v ≡ take l.i l.entries ++ insert_entry g.K.Ord.cmp (drop l.i l.entries) l.key v
