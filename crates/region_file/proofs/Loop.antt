-- A loop that reads items fails where one of them does.
use Rattle.std.proofs.Common.{◌≡◌, Result, Err}
use Rattle.region_file.specs.declared.fault.TableError.{TableError}
use Rattle.region_file.specs.declared.fault.TableError.TheVariants.{Damaged, Memory}
use Rattle.region_file.specs.Faults.{Fails}

-- a reading that fails is answered by its fault
pub fault_is : {X : Type 0} (e : TableError) (read : Result X TableError) → read ≡ Err e → Fails e read
fault_is Memory read h = tt
fault_is (Damaged at) read h = h
