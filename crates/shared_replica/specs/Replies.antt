-- To be believed.
-- What the answer of a call says of the replica that the seat then gave back.
use Rattle.std.specs.Prelude.{◌≡◌, ◌⊎◌, ℕ, true, false, List, map, Option, Some, None, Result, Ok, Err}
use Rattle.flash_io.specs.Faults.{Rose}
use Rattle.flash_io.specs.declared.disk.Disk.{Ghosts}
use Rattle.flash_types.specs.Asks.{Asked}
use Rattle.delta_layer.specs.declared.built.Job.{Job}
use Rattle.learner_read.specs.declared.snapshot.Snapshot.{Snapshot}
use Rattle.raft_apply.specs.declared.command.Parsed.{Parsed}
use Rattle.region_table.specs.Applying.{IsCause}
use Rattle.region_table.specs.declared.fault.ApplyError.{ApplyError}
use Rattle.replica_state.specs.Applying.{HasApplied, IsOf}
use Rattle.replica_state.specs.Asks.{IsReadCause, IsReadOf}
use Rattle.replica_state.specs.Core.{Core, full}
use Rattle.replica_state.specs.Works.{BegunTask, task_of}
use Rattle.replica_state.specs.declared.apply.Applied.{Applied}
use Rattle.replica_state.specs.declared.asks.ReadRefusal.{ReadRefusal}
use Rattle.replica_store.specs.Store.{IsWhole}
use Rattle.segment_due.specs.Infos.{info_of}
use Rattle.segment_due.specs.Works.{due_of}
use Rattle.segment_due.specs.declared.works.Due.{Due}
use Rattle.segment_snapshot.specs.Rights.{IsRightScan}
use Rattle.segment_work.specs.Jobs.{can_begin}
use Rattle.replica.specs.Learner.{Learner, Sound}
use Rattle.shared_replica.specs.declared.fault.WorkError.{WorkError}
use Rattle.shared_replica.specs.declared.fault.WorkError.TheVariants.{Stopped, Memory}

-- ---- an entry

-- The entry at position p was ready in the state before, and was applied to it.
pub record WasApplied {G : Type 0} (p : ℕ) (s : Core G) : Type 0 where
  pub before : Core G
  pub did : HasApplied before p s
  pub there : full s p ≡ true

-- it is applied, or this is why it isn't
abbrev pub IsApplyReply : {G : Type 0} → Parsed → Core G → Result Applied ApplyError → Type 0
IsApplyReply parsed s (Ok applied) = IsOf parsed applied × WasApplied parsed.position s
IsApplyReply parsed s (Err why) = IsCause s.log s.table parsed.position why

-- by how much the answer raises the seat's own count
abbrev pub applied_by : Result Applied ApplyError → ℕ
applied_by (Ok applied) = 1
applied_by (Err why) = 0

-- ---- reads and works

module _ {G : Type 0} where
  -- which generation the answer of a read pins
  abbrev pub read_pin : Result (Snapshot G) ReadRefusal → Option ℕ
  read_pin (Ok snapshot) = Some snapshot.generation
  read_pin (Err why) = None

  -- which generation the answer of a begun work pins
  abbrev pub work_pin : Result (Option (BegunTask G)) WorkError → Option ℕ
  work_pin (Ok (Some task)) = Some task.state.numbers.generation
  work_pin (Ok None) = None
  work_pin (Err why) = None

module _ {D R G : Type 0} (d : Ghosts D R G) where
  -- It is what the read sees of the replica, and where that is sound a scan of it gives the log's rows; or this is why it isn't answered.
  abbrev pub IsReadReply : (G → List ℕ) → Asked → Learner D G → Result (Snapshot G) ReadRefusal → Type 0
  IsReadReply bytes ask r (Ok snapshot) = IsReadOf r.core ask snapshot × (Sound d bytes r → IsRightScan bytes r.core.log (full r.core) ask snapshot)
  IsReadReply bytes ask r (Err why) = IsReadCause r.core ask why

  -- the disk has failed since the opening, and this is the count of its faults
  pub record IsStoppedAt (r : Learner D G) (count : ℕ) : Type 0 where
    pub is : count ≡ d.fault_count r.store.disk
    pub rose : Rose r.store.opened_faults count

  -- The disk hasn't failed since the opening, and the work is the job's as it is begun on the replica, where it can be begun; or why none was begun.
  abbrev pub IsWorkReply : Job → Learner D G → Result (Option (BegunTask G)) WorkError → Type 0
  IsWorkReply job r (Ok (Some task)) = IsWhole d r.store × (can_begin job r.core.slots ≡ true) × (task ≡ task_of job r.core)
  IsWorkReply job r (Ok None) = IsWhole d r.store × (can_begin job r.core.slots ≡ false)
  IsWorkReply job r (Err (Stopped count)) = IsStoppedAt r count
  IsWorkReply job r (Err Memory) = IsWhole d r.store

  -- none where the disk has failed since the opening, and else the replica's first due work
  abbrev pub IsDueReply : Learner D G → Option Due → Type 0
  IsDueReply r due = (IsStoppedAt r (d.fault_count r.store.disk) × (due ≡ None)) ⊎ (IsWhole d r.store × (due ≡ due_of r.core.settings (map info_of r.core.slots)))
