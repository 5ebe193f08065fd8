-- What holds of slots that are flushed.
use Rattle.std.specs.Prelude.{◌≡◌, ◌≢◌, ℕ, Bool, List, [], ◌∷◌, map, set, slice_get, Some}
use Rattle.std.specs.List.{AllPairs}
use Rattle.manifest_laws.specs.Changes.{Renews}
use Rattle.segment_list.specs.Flushes.{after_files, flushed_slot}
use Rattle.segment_list.specs.Slots.{Slotted}
use Rattle.segment_flush.specs.Flushing.{after_slots, flushed_slots, is_slot, puts_of}
use Rattle.segment_flush.specs.Names.{stored_of}

-- In the manifest they change in their places.
abbrev pub FlushedSlotsAreRenewed : Type 0 → Type 0
FlushedSlotsAreRenewed G = (p : Slotted G → Bool) (n : ℕ) (slots : List (Slotted G)) → Renews (map stored_of slots) (map stored_of (flushed_slots p n slots)) (puts_of p n slots)

-- where one slot is flushed, of a number that no other has
pub record OneIsFlushed {G : Type 0} (n place : ℕ) (s : Slotted G) (olds : List (Slotted G)) : Type 0 where
  pub slots : flushed_slots (is_slot s.id) n olds ≡ set olds place (flushed_slot n s)
  pub next : after_slots (is_slot s.id) n olds ≡ after_files n s.files
  pub puts : puts_of (is_slot s.id) n olds ≡ stored_of (flushed_slot n s) ∷ []

abbrev pub OneSlotIsFlushed : Type 0 → Type 0
OneSlotIsFlushed G = (n place : ℕ) (s : Slotted G) (slots : List (Slotted G)) → AllPairs (λ a b. a.id ≢ b.id) slots → slice_get slots place ≡ Some s → OneIsFlushed n place s slots
