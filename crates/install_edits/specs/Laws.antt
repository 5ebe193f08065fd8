-- What the edits of slots that give way to others make of a manifest's state.
use Rattle.std.specs.Prelude.{◌≡◌, ◌<◌, ◌≤◌, ◌+◌, ℕ, true, ◌||◌, List, ◌++◌, drop, length, map, take}
use Rattle.std.specs.List.{list_all}
use Rattle.manifest_form.specs.declared.state.Edit.{Edit}
use Rattle.manifest_form.specs.declared.state.State.{State}
use Rattle.manifest_form.specs.States.{all_done, is_formed, segment_below, with_segments}
use Rattle.manifest_form.specs.Whole.{IdsDiffer}
use Rattle.manifest_laws.specs.Changes.{EachBelow, TouchNone}
use Rattle.segment_list.specs.Lists.{CoverAlike, NumbersDiffer, is_file_in, with_slots}
use Rattle.segment_list.specs.Slots.{Slotted}
use Rattle.segment_flush.specs.Names.{stored_of}
use Rattle.install_edits.specs.Edits.{change_edits}

-- `count` slots from a place on give way to others that have their handles, and the numbers of all differ then.
pub record GiveWay {G : Type 0} (place count : ℕ) (news slots : List (Slotted G)) : Type 0 where
  pub some : 0 < count
  pub within : place + count ≤ length slots
  pub cover : CoverAlike (take count (drop place slots)) news
  pub numbers : NumbersDiffer (with_slots place count news slots)

-- A state that a store may have names the slots. The edits in front leave the segments; Next doesn't fall, and their numbers are below it.
pub record CanChange {G : Type 0} (file : ℕ) (s : State) (first : List Edit) (slots : List (Slotted G)) : Type 0 where
  pub stands : s.segments ≡ map stored_of slots
  pub formed : is_formed file s ≡ true
  pub differ : IdsDiffer s.segments
  pub leave : TouchNone first
  pub no_lower : s.next ≤ (all_done s first).next
  pub below : EachBelow (all_done s first).next first

-- all edits of the change, behind those in front
abbrev pub changing : {G : Type 0} → List Edit → (place count : ℕ) → List (Slotted G) → List (Slotted G) → List Edit
changing first place count news slots = first ++ change_edits (take count (drop place slots)) news

-- The state then names the slots as they are then, and nothing else changed; a store may have it, if the numbers of the new segments and of their files are below Next.
pub record Changes {G : Type 0} (file : ℕ) (s : State) (first : List Edit) (place count : ℕ) (news slots : List (Slotted G)) : Type 0 where
  pub state : all_done s (changing first place count news slots) ≡ with_segments (all_done s first) (map stored_of (with_slots place count news slots))
  pub formed : list_all (segment_below (all_done s first).next) (map stored_of news) ≡ true → is_formed file (all_done s (changing first place count news slots)) ≡ true
  pub differ : IdsDiffer (all_done s (changing first place count news slots)).segments

abbrev pub EditsChangeSlots : Type 0 → Type 0
EditsChangeSlots G = (file : ℕ) (s : State) (first : List Edit) (place count : ℕ) (news slots : List (Slotted G)) → CanChange file s first slots → GiveWay place count news slots → Changes file s first place count news slots

-- The files that are named then are those of the new slots and of the slots that stay.
abbrev pub FilesThenAre : Type 0 → Type 0
FilesThenAre G = (file place count : ℕ) (news slots : List (Slotted G)) → is_file_in file (with_slots place count news slots) ≡ (is_file_in file (take place slots) || (is_file_in file news || is_file_in file (drop (place + count) slots)))
