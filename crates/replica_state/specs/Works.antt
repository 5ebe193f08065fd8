-- Works that were begun on what is in memory.
use Rattle.std.specs.Prelude.{◌≡◌, ℕ, true, map}
use Rattle.committed_log.specs.Lawful.{IsLawful}
use Rattle.committed_log.specs.Log.{Log}
use Rattle.delta_layer.specs.declared.built.Job.{Job}
use Rattle.flash_types.specs.Ranges.{least_handle}
use Rattle.good_replica.specs.Good.{CoversFrom}
use Rattle.segment_list.specs.Lists.{range_alone}
use Rattle.segment_work.specs.Begun.{Begun, begun}
use Rattle.segment_work.specs.Jobs.{can_begin}
use Rattle.replica_state.specs.Core.{Core, IsCore}

-- a work, and what was in memory when it was begun
pub record BegunTask (G : Type 0) : Type 0 where
  pub work : Begun G
  pub state : Core G

module _ {G : Type 0} where
  -- the work of a job that is begun on this state
  abbrev pub task_of : Job → Core G → BegunTask G
  task_of job s = record { work = begun job s.numbers.safe_point s.settings.pack_rows s.slots; state = s }

  -- It was begun on a state that was in order and of a lawful log, whose segments covered the handles, and where its job could be begun.
  pub record IsTask (task : BegunTask G) : Type 0 where
    pub order : IsCore task.state
    pub lawful : IsLawful task.state.log
    pub cover : CoversFrom least_handle (map range_alone task.state.slots)
    pub can : can_begin task.work.job task.state.slots ≡ true
    pub is : task ≡ task_of task.work.job task.state

  -- the same of what a task keeps of the state
  pub record IsTaskWith (log : Log) (generation : ℕ) (work : Begun G) (state : Core G) : Type 0 where
    pub log_is : log ≡ state.log
    pub generation_is : generation ≡ state.numbers.generation
    pub order : IsCore state
    pub cover : CoversFrom least_handle (map range_alone state.slots)
    pub can : can_begin work.job state.slots ≡ true
    pub is : work ≡ begun work.job state.numbers.safe_point state.settings.pack_rows state.slots
