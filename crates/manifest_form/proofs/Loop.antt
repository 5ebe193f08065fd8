-- A loop that reads items fails where one of them does.
use Rattle.std.proofs.Common.{◌≡◌, Result, Err}
use Rattle.manifest_form.specs.declared.fault.Fault.{Fault}
use Rattle.manifest_form.specs.declared.fault.Fault.TheVariants.{At, Version, Memory}
use Rattle.manifest_form.specs.Faults.{Fails}

-- a reading that fails is answered by its fault
pub fault_is : {X : Type 0} (e : Fault) (read : Result X Fault) → read ≡ Err e → Fails e read
fault_is Memory read h = tt
fault_is (At at) read h = h
fault_is (Version found) read h = h
