-- Faults of the disk and of bytes as faults of an opening.
use Rattle.std.specs.Prelude.{ℕ}
use Rattle.flash_io.specs.declared.fault.DiskFault.{DiskFault}
use Rattle.flash_io.specs.declared.fault.DiskFault.TheVariants as disk
use Rattle.opened_segments.specs.declared.fault.OpenFault.{OpenFault}
use Rattle.pack_codec.specs.declared.fault.FormError.{FormError}
use Rattle.pack_codec.specs.declared.fault.FormError.TheVariants as form
use Rattle.opened_segments.specs.declared.fault.OpenFault.TheVariants.{Damaged, Device, Memory}

abbrev pub open_fault : DiskFault → OpenFault
open_fault disk.Failed = Device
open_fault disk.Memory = Memory

-- of the bytes of a file
abbrev pub form_fault : ℕ → FormError → OpenFault
form_fault file (form.Damaged at) = Damaged file at
form_fault file form.Memory = Memory
