-- What applying an entry changes in memory, and which sets it keeps.
use Rattle.std.specs.Prelude.{◌≡◌, ℕ, ◌+◌, ◌≤◌, max, true, [], ◌∷◌, ◌++◌, length, map}
use Rattle.committed_log.specs.Applied.{is_ready, with_position}
use Rattle.good_replica.specs.Effect.{added, clearing}
use Rattle.raft_apply.specs.declared.command.Parsed.{Parsed}
use Rattle.region_table.specs.Table.{Table, IsTableAt}
use Rattle.segment_list.specs.Slots.{absorbed}
use Rattle.replica_state.specs.Core.{Core, IsCore, full, upto}
use Rattle.replica_state.specs.declared.apply.Applied.{Applied}

-- the entry's region and index
pub record IsOf (parsed : Parsed) (applied : Applied) : Type 0 where
  pub region : applied.region ≡ parsed.region
  pub index : applied.index ≡ parsed.index

module _ {G : Type 0} where
  -- With the entry at position p, the last of those that are listed then: each slot has what the entry says of its handles, tagged with their number, and the table is this one.
  abbrev pub with_entry : Core G → ℕ → Table → Core G
  with_entry s p table = record s {
    slots = map (absorbed (length s.listed + 1) (clearing s.log p) (added s.log p)) s.slots;
    table = table;
    listed = s.listed ++ p ∷ [];
    count = s.count + 1;
    highest = max s.highest (p + 1);
  }

  -- The entry at position p was ready, and is applied besides; nothing else changed.
  pub record HasApplied (old : Core G) (p : ℕ) (new : Core G) : Type 0 where
    pub ready : is_ready old.log (full old) p ≡ true
    pub set : full new ≡ with_position (full old) p
    pub table : IsTableAt old.log (with_position (full old) p) new.table
    pub same : new ≡ with_entry old p new.table

  -- What was applied by each earlier moment is as before, and by the last one all is.
  pub record KeepsSets (old new : Core G) : Type 0 where
    pub earlier : (k : ℕ) → k ≤ length old.listed → upto new k ≡ upto old k
    pub all : upto new (length new.listed) ≡ full new

abbrev pub AppliedStatesKeepSets : Type 0 → Type 0
AppliedStatesKeepSets G = (old new : Core G) (p : ℕ) → IsCore old → HasApplied old p new → KeepsSets old new
