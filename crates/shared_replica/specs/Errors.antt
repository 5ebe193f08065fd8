-- The errors of steps.
use Rattle.replica.specs.declared.fault.StepError.{StepError}
use Rattle.replica.specs.declared.fault.StepError.TheVariants as step
use Rattle.shared_replica.specs.declared.fault.SharedError.{SharedError}
use Rattle.shared_replica.specs.declared.fault.SharedError.TheVariants as shared

abbrev pub shared_error : StepError → SharedError
shared_error (step.NoSegment seg) = shared.NoSegment seg
shared_error step.Device = shared.Device
shared_error step.Memory = shared.Memory
