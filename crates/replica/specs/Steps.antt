-- What the steps that write do.
use Rattle.std.specs.Prelude.{◌≡◌, ℕ, ◌+◌, Bool, true, false, not, max, slice_get, List, [], ◌∷◌, ◌++◌, map, Option, Some, None, if◌then◌else◌}
use Rattle.std.specs.List.{list_any, sum_by}
use Rattle.replica_state.specs.Changes.{checkpointed, with_flushes}
use Rattle.log_laws.specs.Chains.{chain_at}
use Rattle.manifest_form.specs.declared.state.Edit.{Edit}
use Rattle.manifest_form.specs.declared.state.Edit.TheVariants as edit
use Rattle.region_table.specs.Table.{size_of}
use Rattle.replica_state.specs.Core.{Core, full}
use Rattle.replica_store.specs.Naming.{is_file_of}
use Rattle.segment_flush.specs.Flushing.{after_slots, has_more, is_slot, puts_of, segment_edits}
use Rattle.segment_flush.specs.Names.{stored_of}
use Rattle.segment_list.specs.Slots.{Slotted, mem_rows}
use Rattle.replica.specs.Learner.{Learner}
use Rattle.replica.specs.declared.retired.Retired.{Retired}

-- one past the greatest position that is applied, or High where that is above it
abbrev pub reached : {G : Type 0} → Core G → ℕ
reached core = max core.numbers.high core.highest

-- the edits of a flush of the slots that pass a test
abbrev pub flush_edits : {G : Type 0} → (Slotted G → Bool) → ℕ → Core G → List Edit
flush_edits p high core = edit.Next (after_slots p core.numbers.next core.slots) ∷ edit.High high (chain_at core.log high) ∷ segment_edits (puts_of p core.numbers.next core.slots)

-- The segment of this number had so many versions in memory, and all its files are named. Where they were, nothing has changed.
pub record HasFlushed {D G : Type 0} (seg versions : ℕ) (old new : Learner D G) : Type 0 where
  pub place : ℕ
  pub slot : Slotted G
  pub there : slice_get old.core.slots place ≡ Some slot
  pub number : slot.id ≡ seg
  pub rows : versions ≡ sum_by mem_rows slot.files
  pub same : has_more slot ≡ false → new ≡ old
  pub flushed : has_more slot ≡ true → new.core ≡ with_flushes (is_slot slot.id) (reached old.core) old.core

-- ---- a checkpoint

-- whether the region file of the last checkpoint is named no more once there is a new one
abbrev pub frees : {D G : Type 0} → Learner D G → ℕ → Bool
frees r file = not (list_any (is_file_of file) (map stored_of r.core.slots))

abbrev pub if_freed : Bool → ℕ → Option ℕ
if_freed b file = if b then Some file else None

-- the region file that goes out of use with a checkpoint, if there is one
abbrev pub freed_of : {D G : Type 0} → Learner D G → Option ℕ → Option ℕ
freed_of r None = None
freed_of r (Some file) = if_freed (frees r file) file

abbrev pub freed : {D G : Type 0} → Learner D G → Option ℕ
freed r = freed_of r r.store.manifest.state.regions

-- the generation then, and what went out of use at this one
abbrev pub risen : ℕ → Option ℕ → ℕ
risen generation None = generation
risen generation (Some file) = generation + 1

abbrev pub out_of_use : ℕ → Option ℕ → List Retired
out_of_use generation None = []
out_of_use generation (Some file) = record { file = file; generation = generation } ∷ []

-- its edits, where the region file has this number
abbrev pub checkpoint_edits : {G : Type 0} → (next high region : ℕ) → Core G → List Edit
checkpoint_edits next high region core =
    edit.Next next ∷ edit.High high (chain_at core.log high) ∷ edit.Regions region ∷ edit.Count (size_of core.log (full core)) ∷ segment_edits (puts_of has_more core.numbers.next core.slots)

-- All that is applied is committed, and all files are named; Next is past the region file's number, and the generation is higher by 1 where the older region file went out of use.
pub record HasCheckpointed {D G : Type 0} (old new : Learner D G) : Type 0 where
  pub core : new.core ≡ checkpointed (after_slots has_more old.core.numbers.next old.core.slots + 1) (reached old.core) (risen old.core.numbers.generation (freed old)) old.core
  pub retired : new.retired ≡ old.retired ++ out_of_use old.core.numbers.generation (freed old)
