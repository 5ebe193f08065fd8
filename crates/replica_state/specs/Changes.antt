-- What the steps that write do to what is in memory.
use Rattle.std.specs.Prelude.{◌≡◌, ℕ, Bool, List, [], length}
use Rattle.std.specs.List.{AllByRecursion}
use Rattle.segment_flush.specs.Flushing.{after_slots, flushed_slots, has_more}
use Rattle.segment_install.specs.Goodness.{slots_after}
use Rattle.segment_install.specs.declared.planned.Install.{Install}
use Rattle.segment_list.specs.Slots.{Slotted}
use Rattle.replica_state.specs.Core.{Core}

module _ {G : Type 0} where
  -- The slots that pass a test are flushed, their blocks numbered from Next on; High is this then.
  abbrev pub with_flushes : (Slotted G → Bool) → ℕ → Core G → Core G
  with_flushes p high s = record s {
    slots = flushed_slots p s.numbers.next s.slots;
    numbers = record s.numbers { next = after_slots p s.numbers.next s.slots; high = high };
  }

  -- with this Next
  abbrev pub with_next : ℕ → Core G → Core G
  with_next next s = record s { numbers = record s.numbers { next = next } }

  -- with this safe point
  abbrev pub with_safe_point : ℕ → Core G → Core G
  with_safe_point ts s = record s { numbers = record s.numbers { safe_point = ts } }

  -- with this generation
  abbrev pub with_generation : ℕ → Core G → Core G
  with_generation generation s = record s { numbers = record s.numbers { generation = generation } }

  -- with this least generation that is kept
  abbrev pub with_kept_from : ℕ → Core G → Core G
  with_kept_from kept_from s = record s { numbers = record s.numbers { kept_from = kept_from } }

  -- all files of the segments are named
  abbrev pub AllNamed : List (Slotted G) → Type 0
  AllNamed slots = AllByRecursion (λ (t : Slotted G). t.tags ≡ []) slots

  -- all that is applied is committed
  abbrev pub with_checkpoint : Core G → Core G
  with_checkpoint s = record s { committed = length s.listed }

  -- A checkpoint: all that isn't named is flushed, Next is one past the region file's number, High and the generation are these, and all that is applied is committed.
  abbrev pub checkpointed : (next high generation : ℕ) → Core G → Core G
  checkpointed next high generation s = with_checkpoint (with_generation generation (with_next next (with_flushes has_more high s)))

  -- The slots of an install stand in the place of those that give way; Next, High and the generation are these.
  abbrev pub with_install : Install G → (next high generation : ℕ) → Core G → Core G
  with_install install next high generation s = record s {
    slots = slots_after install s.slots;
    numbers = record s.numbers { next = next; high = high; generation = generation };
  }
