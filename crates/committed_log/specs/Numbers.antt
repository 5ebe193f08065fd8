-- Admission's machinery.
-- Indexes and epochs stay far below what a program's numbers hold.
use Rattle.std.specs.Prelude.{ℕ, ◌^◌, ◌<◌, List}
use Rattle.committed_log.specs.declared.region.Descriptor.{Descriptor}
use Rattle.committed_log.specs.Regions.{Region, Unborn, Live, Prepared, Gone, region}

pub record HasRoom (d : Descriptor) : Type 0 where
  pub index : d.index < 2 ^ 63
  pub conf_ver : d.epoch.conf_ver < 2 ^ 63
  pub version : d.epoch.version < 2 ^ 63

abbrev pub IsRoomy : Region → Type 0
IsRoomy Unborn = Unit {0}
IsRoomy (Live d) = HasRoom d
IsRoomy (Prepared d target) = HasRoom d
IsRoomy (Gone index) = index < 2 ^ 63

-- the numbers of all regions can be raised by an entry
abbrev pub AreRoomy : List (ℕ × Region) → Type 0
AreRoomy regions = (r : ℕ) → IsRoomy (region regions r)
