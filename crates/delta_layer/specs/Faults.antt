-- A fault of a reading as the answer of a build.
use Rattle.stable_file.specs.declared.fault.ReadError.{ReadError}
use Rattle.stable_file.specs.declared.fault.ReadError.TheVariants as read
use Rattle.delta_layer.specs.declared.built.BuildError.{BuildError}
use Rattle.delta_layer.specs.declared.built.BuildError.TheVariants.{Device, Damaged, Memory}

abbrev pub build_error : ReadError → BuildError
build_error read.Device = Device
build_error (read.Damaged at) = Damaged at
build_error read.Memory = Memory
