-- The errors of calls as causes why a disk isn't opened.
use Rattle.std.specs.Prelude.{ℕ}
use Rattle.flash_io.specs.declared.fault.DiskFault.{DiskFault}
use Rattle.flash_io.specs.declared.fault.DiskFault.TheVariants as disk
use Rattle.manifest.specs.declared.fault.CommitError.{CommitError}
use Rattle.manifest.specs.declared.fault.CommitError.TheVariants as commit
use Rattle.manifest.specs.declared.fault.ManifestError.{ManifestError}
use Rattle.manifest.specs.declared.fault.ManifestError.TheVariants as refusal
use Rattle.opened_segments.specs.declared.fault.OpenFault.{OpenFault}
use Rattle.opened_segments.specs.declared.fault.OpenFault.TheVariants as fault
use Rattle.region_table.specs.declared.opening.OpenFault as opening
use Rattle.region_table.specs.declared.opening.OpenFault.TheVariants as unopened
use Rattle.opened_store.specs.declared.fault.OpenCause.{OpenCause}
use Rattle.opened_store.specs.declared.fault.OpenCause.TheVariants.{NotAStore, Version, Damaged, Device, Memory}

abbrev pub of_manifest : ManifestError → OpenCause
of_manifest refusal.NotAStore = NotAStore
of_manifest (refusal.Version found) = Version found
of_manifest (refusal.Damaged file at) = Damaged file at
of_manifest refusal.Device = Device
of_manifest refusal.Memory = Memory

abbrev pub of_commit : CommitError → OpenCause
of_commit commit.Device = Device
of_commit commit.Memory = Memory

abbrev pub of_segments : OpenFault → OpenCause
of_segments (fault.Damaged file at) = Damaged file at
of_segments fault.Device = Device
of_segments fault.Memory = Memory

abbrev pub of_disk : DiskFault → OpenCause
of_disk disk.Failed = Device
of_disk disk.Memory = Memory

-- of a region file; regions that are no log's are no file's
abbrev pub of_regions : ℕ → opening.OpenFault → OpenCause
of_regions file (unopened.Damaged at) = Damaged file at
of_regions file unopened.OtherLog = Damaged file 0
of_regions file unopened.Memory = Memory
