-- A status has a number of its own.
use Rattle.std.proofs.Common.{◌≡◌, ◌∙◌, refl, sym, ap, ℕ, ◌==◌, cond}
use Rattle.replay_tool.specs.Runs.{code_of}
use Rattle.replay_tool.specs.declared.status.Status.{Status}
use Rattle.replay_tool.specs.declared.status.Status.TheVariants.{Done, Usage, Log, Script, LogFault, ScriptFault, Output, Memory}

status_of : ℕ → Status
status_of n = cond (n == 0) Done (cond (n == 2) Usage (cond (n == 3) Log (cond (n == 4) Script (cond (n == 5) LogFault (cond (n == 6) ScriptFault (cond (n == 8) Output Memory))))))

back : (s : Status) → status_of (code_of s) ≡ s
unfolding status_of
back Done = refl
back Usage = refl
back Log = refl
back Script = refl
back LogFault = refl
back ScriptFault = refl
back Output = refl
back Memory = refl

pub same_status : (s t : Status) → code_of s ≡ code_of t → s ≡ t
same_status s t is = sym (back s) ∙ ap status_of is ∙ back t
