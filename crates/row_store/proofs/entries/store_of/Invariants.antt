use Rattle.std.proofs.Common.{◌≡◌, drop}
use Rattle.committed_log.specs.Store.{after_from, store_of}
use Rattle.row_store.proofs.entries.store_of.Given as goal

abbrev pub invariant-loop-entry : goal.invariant-loop-entry
invariant-loop-entry l = record {
  at : l.position ≡ l.entry-index;
  rest : after_from l.table l.position l.store (drop l.entry-index l.entries) ≡ store_of l.table l.entries;
}
