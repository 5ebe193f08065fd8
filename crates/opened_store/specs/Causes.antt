-- To be believed.
-- Why a disk, as it reads, isn't opened for a log.
use Rattle.std.specs.Prelude.{◌≡◌, ◌⊎◌, ℕ, ◌≤◌, Bool, List, length, Option, Some, None, Err}
use Rattle.flash_io.specs.Image.{Image}
use Rattle.committed_log.specs.Log.{Log}
use Rattle.log_laws.specs.Chains.{chain_at}
use Rattle.manifest_form.specs.declared.recover.Recovered.{Recovered}
use Rattle.manifest.specs.Stores.{HasStore, HasVersion, IsDamaged, IsNoStore}
use Rattle.opened_segments.specs.Faults.{IsFirst, data_in, faults_in}
use Rattle.opened_segments.specs.declared.fault.OpenFault.TheVariants as fault
use Rattle.region_file.specs.Regions.{regions_of}
use Rattle.region_file.specs.declared.fault.TableError.TheVariants as unread
use Rattle.region_table.specs.Opening.{IsOpenFault}
use Rattle.region_table.specs.declared.opening.OpenFault.TheVariants as unopened
use Rattle.store_image.specs.Images.{AreRegionsRead, columns_in}
use Rattle.opened_store.specs.declared.fault.OpenCause.{OpenCause}
use Rattle.opened_store.specs.declared.fault.OpenCause.TheVariants.{NotAStore, Version, OtherLog, Damaged, Device, Memory}

-- The store is of the log's table and columns, and its digest is that of the log's entries below High, all of which are there.
pub record IsOfLog (log : Log) (has : Recovered) : Type 0 where
  pub table : has.header.table ≡ log.table
  pub columns : has.header.columns ≡ columns_in log
  pub high : has.state.high ≤ length log.entries
  pub chain : has.state.chain ≡ chain_at log has.state.high

-- from this place on the bytes of a region file aren't of the form; or at 0, they aren't there, or no set of the log's entries leaves these regions
abbrev pub IsRegionsFault : Log → Option (List ℕ) → ℕ → Type 0
IsRegionsFault log None at = at ≡ 0
IsRegionsFault log (Some bytes) at = (regions_of bytes ≡ Err (unread.Damaged at)) ⊎ ((at ≡ 0) × IsOpenFault log bytes unopened.OtherLog)

-- the file has this fault
abbrev pub IsFaultOfFile : Log → ℕ → Option (List ℕ) → ℕ → ℕ → Type 0
IsFaultOfFile log named bytes file at = (file ≡ named) × IsRegionsFault log bytes at

module _ (log : Log) (own : ℕ) (c : Image) where
  -- the region file that a state names is damaged, as an image has it whose manifest stands in the file `own`
  abbrev pub AreRegionsDamaged : Option ℕ → ℕ → ℕ → Type 0
  AreRegionsDamaged None file at = ⊥
  AreRegionsDamaged (Some named) file at = IsFaultOfFile log named (data_in own c named) file at

  -- the region file is, or it isn't and this is the first damage of the segments
  abbrev pub ArePartsDamaged : Recovered → ℕ → ℕ → Type 0
  ArePartsDamaged has file at = AreRegionsDamaged has.state.regions file at
      ⊎ (((A : ℕ → Bool) × AreRegionsRead own c log A has.state.regions) × IsFirst (fault.Damaged file at) (faults_in own c (columns_in log) has.state.segments))

-- a store is there that isn't of the log, and this is its High
abbrev pub IsOther : Log → Image → ℕ → Type 0
IsOther log c entries = (own : ℕ) × (has : Recovered) × HasStore c own has × (entries ≡ has.state.high) × (IsOfLog log has → ⊥)

-- a store of the log is there, a part of which is damaged
abbrev pub HasDamagedPart : Log → Image → ℕ → ℕ → Type 0
HasDamagedPart log c file at = (own : ℕ) × (has : Recovered) × HasStore c own has × IsOfLog log has × ArePartsDamaged log own c has file at

-- The cause is what the disk reads, if it isn't the device or memory. In this order: the root and the manifest, the log, the region file, the segments.
abbrev pub IsCause : Log → Image → OpenCause → Type 0
IsCause log c NotAStore = IsNoStore c
IsCause log c (Version found) = HasVersion c found
IsCause log c (OtherLog entries) = IsOther log c entries
IsCause log c (Damaged file at) = IsDamaged c file at ⊎ HasDamagedPart log c file at
IsCause log c Device = Unit {0}
IsCause log c Memory = Unit {0}

-- the cause is in what the disk reads
abbrev pub IsRefusal : OpenCause → Type 0
IsRefusal NotAStore = Unit {0}
IsRefusal (Version found) = Unit {0}
IsRefusal (OtherLog entries) = Unit {0}
IsRefusal (Damaged file at) = Unit {0}
IsRefusal Device = ⊥
IsRefusal Memory = ⊥

-- the cause is a damage of which P tells, or the device or memory
abbrev pub IsDamageOr : (ℕ → ℕ → Type 0) → OpenCause → Type 0
IsDamageOr P NotAStore = ⊥
IsDamageOr P (Version found) = ⊥
IsDamageOr P (OtherLog entries) = ⊥
IsDamageOr P (Damaged file at) = P file at
IsDamageOr P Device = Unit {0}
IsDamageOr P Memory = Unit {0}
