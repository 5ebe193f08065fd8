-- Admission's machinery.
-- What a call tells of an op where memory may run out.
use Rattle.std.specs.Prelude.{◌≡◌, Bool, true, false, Option, Some, Result, Ok, Err, IsTrue}
use Rattle.committed_log.specs.declared.change.ChangeError.{ChangeError}
use Rattle.committed_log.specs.declared.change.ChangeError.TheVariants.{BadKey, BadRecord, Memory}
use Rattle.committed_log.specs.declared.op.FamilyOp.{FamilyOp}
use Rattle.committed_log.specs.declared.op.FamilyOp.TheVariants as change
use Rattle.committed_log.specs.declared.op.OpFault.{OpFault}
use Rattle.committed_log.specs.declared.op.OpFault.TheVariants as fault

-- whether a change has bytes, which are shared with the op
abbrev pub has_bytes : FamilyOp → Bool
has_bytes (change.Value h start bytes) = true
has_bytes (change.Write h ts start gone (Some short)) = true
has_bytes _ = false

abbrev pub shares : Result (Option FamilyOp) OpFault → Bool
shares (Ok (Some c)) = has_bytes c
shares _ = false

-- The change or the fault that the op has. Memory can run out only where the change has bytes.
abbrev pub IsChange : Result (Option FamilyOp) ChangeError → Result (Option FamilyOp) OpFault → Type 0
IsChange (Ok found) answer = answer ≡ Ok found
IsChange (Err BadKey) answer = answer ≡ Err fault.BadKey
IsChange (Err BadRecord) answer = answer ≡ Err fault.BadRecord
IsChange (Err Memory) answer = IsTrue (shares answer)
