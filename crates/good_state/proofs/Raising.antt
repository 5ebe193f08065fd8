-- What a higher safe point keeps.
use Rattle.std.proofs.Common.{ℕ, ◌≤◌, length}
use Rattle.good_replica.proofs.Replicas.{safe_up_each}
use Rattle.prefix_laws.proofs.Replica.{safe_up}
use Rattle.replica_state.specs.Core.{Core, full, upto}
use Rattle.replica_state.specs.Changes.{with_safe_point}
use Rattle.good_state.specs.Follows.{StateFollows}
use Rattle.good_state.specs.Good.{IsGoodState, told, segments_at}
use Rattle.good_state.proofs.Following.{core_itself}

module _ {G : Type 0} (s : Core G) (ts : ℕ) (up : s.numbers.safe_point ≤ ts) where
  pub raised_good : (bytes : G → _) → IsGoodState bytes s → IsGoodState bytes (with_safe_point ts s)
  raised_good bytes good = record {
    readable = good.readable;
    memory = record { cover = good.memory.cover; mark = good.memory.mark; handles = safe_up_each s.log (full s) s.numbers.mark s.numbers.safe_point ts (segments_at bytes (length s.listed) s) up good.memory.handles };
    counts = safe_up s.log (upto s) s.numbers.high s.numbers.safe_point s.committed (length s.listed) ts (told bytes s) up good.counts;
    below = good.below;
  }

  pub raised_follows : StateFollows (with_safe_point ts s) s
  raised_follows = let same = core_itself s in record {
    log = same.log;
    settings = same.settings;
    mark = same.mark;
    opened = same.opened;
    listed = same.listed;
    count = same.count;
    committed = same.committed;
    high = same.high;
    safe_point = up;
    next = same.next;
    generation = same.generation;
    kept_from = same.kept_from;
    slots = same.slots;
  }
