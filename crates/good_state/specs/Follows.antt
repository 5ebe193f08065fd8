-- To be believed.
-- What stays of what a replica has in memory over its steps: how a later state follows an earlier one.
use Rattle.std.specs.Prelude.{◌≡◌, ℕ, ◌<◌, ◌≤◌, ◌-◌, ◌==◌, false, List, ◌++◌, length, drop, find, Option, Some, None}
use Rattle.std.specs.List.{AllByRecursion}
use Rattle.column_file.specs.declared.file.ColumnFile.{ColumnFile}
use Rattle.delta_layer.specs.Files.{is_tiny}
use Rattle.replica_state.specs.Core.{Core, opened}
use Rattle.segment_list.specs.Slots.{Slotted}

module _ {G : Type 0} where
  -- A segment of the same epoch has grown: files came behind the others, none of them tiny, with counts above what was applied then; more of them may be named.
  pub record HasGrown (applied : ℕ) (new old : Slotted G) : Type 0 where
    pub range : new.range ≡ old.range
    pub stable : new.stable ≡ old.stable
    pub stable_number : new.stable_number ≡ old.stable_number
    pub named : old.named ≤ new.named
    pub more : List ColumnFile
    pub files : new.files ≡ old.files ++ more
    pub no_tiny : AllByRecursion (λ (f : ColumnFile). is_tiny f ≡ false) more
    pub more_tags : List ℕ
    pub tags : new.tags ≡ drop (new.named - old.named) old.tags ++ more_tags
    pub above : AllByRecursion (λ tag. applied < tag) more_tags

  -- the segment of this number
  abbrev pub slot_of : ℕ → List (Slotted G) → Option (Slotted G)
  slot_of id slots = find (λ (s : Slotted G). s.id == id) slots

  -- a segment has no lower epoch than it had, and of the same epoch it has grown
  pub record KeepsSlot (applied : ℕ) (new old : Slotted G) : Type 0 where
    pub epoch : old.epoch ≤ new.epoch
    pub grown : old.epoch ≡ new.epoch → HasGrown applied new old

  -- no segment comes back under a number that none had
  abbrev pub SlotFollows : ℕ → Option (Slotted G) → Option (Slotted G) → Type 0
  SlotFollows applied None old = Unit {0}
  SlotFollows applied (Some new) None = ⊥
  SlotFollows applied (Some new) (Some old) = KeepsSlot applied new old

  pub record StateFollows (new old : Core G) : Type 0 where
    pub log : new.log ≡ old.log
    pub settings : new.settings ≡ old.settings
    pub mark : new.numbers.mark ≡ old.numbers.mark
    pub opened : (p : ℕ) → opened new p ≡ opened old p
    pub listed : (more : List ℕ) × (new.listed ≡ old.listed ++ more)
    pub count : old.count ≤ new.count
    pub committed : old.committed ≤ new.committed
    pub high : old.numbers.high ≤ new.numbers.high
    pub safe_point : old.numbers.safe_point ≤ new.numbers.safe_point
    pub next : old.numbers.next ≤ new.numbers.next
    pub generation : old.numbers.generation ≤ new.numbers.generation
    pub kept_from : old.numbers.kept_from ≤ new.numbers.kept_from
    pub slots : (id : ℕ) → id < old.numbers.next → SlotFollows (length old.listed) (slot_of id new.slots) (slot_of id old.slots)
