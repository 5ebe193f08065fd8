use Rattle.std.proofs.Common.{ℕ, ℤ, List, take}
use Rattle.committed_log.specs.Store.{Store}
use Rattle.committed_log.specs.declared.store.Lock.{Lock}
use Rattle.region_state.specs.Folding.{after_all}
use Rattle.region_state.specs.Standing.{AreOf}
use Rattle.region_state.specs.Undoing.{CanGoBack}
use Rattle.region_state.proofs.advance.put_first.Given as goal

abbrev pub invariant-loop-k : goal.invariant-loop-k
invariant-loop-k l = record {
  made : (s : Store) → AreOf s l.fn.values.entries l.fn.locks.entries → AreOf (after_all s (take l.k l.ops)) l.values.entries l.locks.entries;
  back : (vs : List ((ℤ × ℕ) × List ℕ)) (ls : List (ℤ × Lock)) → CanGoBack l.fn.values.entries l.fn.locks.entries l.fn.puts vs ls → CanGoBack l.values.entries l.locks.entries l.puts vs ls;
}
