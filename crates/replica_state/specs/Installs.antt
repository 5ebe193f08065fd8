-- Installs that are planned on what is in memory.
use Rattle.std.specs.Prelude.{◌≡◌, ◌<◌, ◌+◌, ◌^◌, None, length, map}
use Rattle.std.specs.List.{AllByRecursion}
use Rattle.delta_layer.specs.Laws.{HasSchema}
use Rattle.delta_layer.specs.declared.built.Built.{Built}
use Rattle.flash_types.specs.Ranges.{least_handle}
use Rattle.good_replica.specs.Good.{CoversFrom}
use Rattle.segment_list.specs.Lists.{range_alone}
use Rattle.segment_install.specs.Goodness.{slots_after}
use Rattle.segment_install.specs.Plans.{CanInstall, IsBuiltFor, IsPlan, numbers_for}
use Rattle.segment_install.specs.Stale.{FitsIn, first_fault}
use Rattle.segment_install.specs.declared.part.Files.{Files}
use Rattle.segment_install.specs.declared.planned.Install.{Install}
use Rattle.replica_state.specs.Core.{AreSlots, Core, IsCore}

module _ {G : Type 0} where
  -- What was built is what its job makes, its segments are at the epochs that it was built at and have only grown since, and there are numbers for it from Next on.
  pub record CanInstallOn (built : Built G) (s : Core G) : Type 0 where
    pub built_is : IsBuiltFor built.job built
    pub fresh : first_fault s.slots built.views ≡ None
    pub fit : AllByRecursion (FitsIn s.slots) built.views
    pub free : s.numbers.next + numbers_for built.job < 2 ^ 32

  -- An install of what was built was planned on this state, with the numbers from Next on; the files of its pieces were opened with the log's columns.
  pub record IsInstallOn (files : Files G) (built : Built G) (install : Install G) (s : Core G) : Type 0 where
    pub can : CanInstall s.numbers.next built s.slots
    pub plan : IsPlan s.numbers.next files built s.slots install
    pub low : HasSchema s.log.schema files.low
    pub high : HasSchema s.log.schema files.high

-- The slots are in order then, where Next is past the numbers of the install.
abbrev pub InstalledSlotsAreInOrder : Type 0 → Type 0
InstalledSlotsAreInOrder G = (files : Files G) (built : Built G) (install : Install G) (s : Core G) → IsCore s → CoversFrom least_handle (map range_alone s.slots) → IsInstallOn files built install s → AreSlots s.log.schema (s.numbers.next + numbers_for built.job) s.committed (length s.listed) (slots_after install s.slots)
