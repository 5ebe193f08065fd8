-- To be believed.
-- What the answer of a step that writes says of the replica that the seat held, and of the one that it gave back.
use Rattle.std.specs.Prelude.{◌≡◌, ℕ, ◌<◌, ◌≤◌, ◌==◌, position, List, All, None, Result, Ok, Err}
use Rattle.flash_io.specs.declared.disk.Disk.{Ghosts}
use Rattle.replica_store.specs.Store.{Counted, HasFailed, IsWhole, most_next}
use Rattle.segment_list.specs.Slots.{Slotted}
use Rattle.replica.specs.Learner.{Learner, SameState}
use Rattle.replica.specs.Steps.{HasFlushed}
use Rattle.shared_replica.specs.Replies.{IsStoppedAt}
use Rattle.shared_replica.specs.declared.fault.SharedError.{SharedError}
use Rattle.shared_replica.specs.declared.fault.SharedError.TheVariants.{Stopped, NoRoom, NoSegment, Device, Memory}

-- The seat held this value before the one that it gave back, which follows it. It follows the one that the turn was made with, and all that the seat had seen.
pub record WasHeld {X : Type 0} (follows : X → X → Type 0) (start : X) (seen : List X) (given : X) (P : X → Type 0) : Type 0 where
  pub value : X
  pub from_start : follows value start
  pub grew : All (follows value) seen
  pub step : follows given value
  pub is : P value

-- ---- room

-- there are numbers left for a step
abbrev pub HasRoom : {D G : Type 0} → Learner D G → Type 0
HasRoom r = r.store.manifest.state.next ≤ most_next

-- there are none, and this is the store's Next
pub record IsFullAt {D G : Type 0} (r : Learner D G) (next : ℕ) : Type 0 where
  pub is : next ≡ r.store.manifest.state.next
  pub past : most_next < next

-- no segment has this number
abbrev pub LacksSegment : {D G : Type 0} → Learner D G → ℕ → Type 0
LacksSegment {G = G} r seg = position (λ (s : Slotted G). s.id == seg) r.core.slots ≡ None

module _ {D R G : Type 0} (d : Ghosts D R G) where
  -- ---- a flush

  -- The disk hadn't failed since the opening, there was room, and the segment was flushed.
  pub record WasFlushed (seg versions : ℕ) (old new : Learner D G) : Type 0 where
    pub whole : IsWhole d old.store
    pub room : HasRoom old
    pub did : HasFlushed seg versions old new
    pub counted : Counted d old.store new.store

  -- The disk hadn't failed since the opening, there was room, and all but the disk is as it was. C says whether the segment was there.
  pub record NotFlushed (C : Type 0) (old new : Learner D G) : Type 0 where
    pub whole : IsWhole d old.store
    pub room : HasRoom old
    pub cause : C
    pub same : SameState new old
    pub counted : Counted d old.store new.store

  -- It is flushed, or this is why it isn't.
  abbrev pub IsFlushReply : ℕ → Learner D G → Learner D G → Result ℕ SharedError → Type 0
  IsFlushReply seg old new (Ok versions) = WasFlushed seg versions old new
  IsFlushReply seg old new (Err (Stopped count)) = (new ≡ old) × IsStoppedAt d old count
  IsFlushReply seg old new (Err (NoRoom next)) = (new ≡ old) × IsWhole d old.store × IsFullAt old next
  IsFlushReply seg old new (Err (NoSegment it)) = NotFlushed (it ≡ seg → LacksSegment old seg) old new
  IsFlushReply seg old new (Err Device) = NotFlushed (LacksSegment old seg → ⊥) old new × HasFailed d old.store new.store
  IsFlushReply seg old new (Err Memory) = NotFlushed (LacksSegment old seg → ⊥) old new
