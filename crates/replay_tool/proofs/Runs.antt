-- How runs end, from how their parts do.
use Rattle.std.proofs.Common.{◌≡◌, inl, inr, refl, sym, subst, ℕ, true, List, length, arith}
use Rattle.std.specs.Prelude.{codes}
use Rattle.committed_log.specs.Log.{Log as Entries}
use Rattle.committed_log.specs.Reads.{rows_at_end}
use Rattle.log_file.specs.Passages.{Passage, Reads, Writes}
use Rattle.log_file.specs.Reads.{ReadsLog, IsErrorFrom, log_error_text}
use Rattle.log_file.specs.declared.log.LogError.{LogError}
use Rattle.log_file.specs.declared.log.LogError.TheVariants as unread
use Rattle.log_rows.specs.Texts.{rows_text}
use Rattle.tool_text.specs.Words.{AsksFor, IsCommand}
use Rattle.tool_text.specs.Scripts.{IsErrorOf, most_script}
use Rattle.tool_text.specs.declared.words.Words.{Words}
use Rattle.tool_text.specs.declared.words.Words.TheVariants.{Show, Check}
use Rattle.tool_text.specs.declared.script.ScriptError.{ScriptError}
use Rattle.tool_text.specs.declared.script.ScriptError.TheVariants as error
use Rattle.replay_tool.specs.Scripts.{IsRefusalFrom, IsNoScriptFrom, no_script_text}
use Rattle.replay_tool.specs.Commands.{Run, reads_log, IsTextFor}
use Rattle.replay_tool.specs.Runs.{IsRun, TextEnds, LogErrorEnds, NoScriptEnds, AfterLog, CountsFrom, IsPastLog, IsLogRefusal}
use Rattle.replay_tool.specs.declared.script.NoScript.{NoScript}
use Rattle.replay_tool.specs.declared.script.NoScript.TheVariants as unreadable
use Rattle.replay_tool.specs.declared.status.Status.{Status}
use Rattle.replay_tool.specs.declared.status.Status.TheVariants.{Done, Usage, Log, Script, LogFault, ScriptFault, Output, Memory}

-- why the bytes of a source that was read to its end are no script
pub refusal_from : (p : Passage) (bytes : List ℕ) (why : ScriptError) → Reads most_script p bytes → IsErrorOf bytes why → IsRefusalFrom p why
refusal_from p bytes error.Limit read is = let few = read.within in absurd (omega (arith, few, is))
refusal_from p bytes error.Text read is = record { bytes = bytes; read = read; refused = is }
refusal_from p bytes (error.Field path) read is = record { bytes = bytes; read = read; refused = is }
refusal_from p bytes error.Memory read is = record { bytes = bytes; consumed = read.consumed; within = read.within }

-- ---- what is written

pub refusal_ends : (why : LogError) (out : Passage) (text : List ℕ) (status : Status) → IsLogRefusal why → text ≡ log_error_text why → Writes out text → status ≡ Log → LogErrorEnds why out status
refusal_ends why out text status refusal same written is = subst (LogErrorEnds why out) (sym is) (refusal, subst (Writes out) same written)

pub limit_ends : (why : LogError) (out : Passage) (status : Status) → why ≡ unread.Limit → Writes out (codes "refused log limit\n") → status ≡ Log → LogErrorEnds why out status
limit_ends why out status limit written is = subst (λ e. LogErrorEnds e out status) (sym limit) (subst (LogErrorEnds unread.Limit out) (sym is) (tt {0}, written))

pub script_fault_ends : (why : NoScript) (out : Passage) (status : Status) → why ≡ unreadable.Failed → Writes out (codes "fault script\n") → status ≡ ScriptFault → NoScriptEnds why out status
script_fault_ends why out status fails written is = subst (NoScriptEnds why out) (sym is) (fails, subst (λ e. Writes out (no_script_text e)) (sym fails) written)

-- ---- a run

module _ (words : List (List ℕ)) (run : Run) where
  -- the text of a command that has it
  text_ends : (command : Words) (text : List ℕ) (status : Status) → AsksFor words command → IsTextFor command run text → TextEnds text run.out status → IsRun words run status
  text_ends command text Done asked is h = (text, record { command = command; asked = asked; is = is }, h)
  text_ends command text Usage asked is h = absurd h
  text_ends command text Log asked is h = absurd h
  text_ends command text Script asked is h = absurd h
  text_ends command text LogFault asked is h = absurd h
  text_ends command text ScriptFault asked is h = absurd h
  text_ends command text Output asked is h = (text, record { command = command; asked = asked; is = is }, h)
  text_ends command text Memory asked is h = ((command, asked), h)

  log_ends : (command : Words) (why : LogError) (status : Status) → AsksFor words command → reads_log command ≡ true → IsErrorFrom run.log why → LogErrorEnds why run.out status → IsRun words run status
  log_ends command why Done asked reads is h = absurd h
  log_ends command why Usage asked reads is h = absurd h
  log_ends command why Log asked reads is h = (why, h.0, record { asked = record { command = command; asked = asked; reads = reads }; is = is; written = h.1 })
  log_ends command why Script asked reads is h = absurd h
  log_ends command why LogFault asked reads is h =
      record { asked = record { command = command; asked = asked; reads = reads }; is = subst (IsErrorFrom run.log) h.0 is; written = subst (λ e. Writes run.out (log_error_text e)) h.0 h.1 }
  log_ends command why ScriptFault asked reads is h = absurd h
  log_ends command why Output asked reads is h = absurd h
  log_ends command why Memory asked reads is h = ((command, asked), h)

  script_ends : (why : NoScript) (status : Status) → IsPastLog words run → IsNoScriptFrom run.script why → NoScriptEnds why run.out status → IsRun words run status
  script_ends why Done past is h = absurd h
  script_ends why Usage past is h = absurd h
  script_ends why Log past is h = absurd h
  script_ends why Script past is h = (why, h.0, record { past = past; is = is; written = h.1 })
  script_ends why LogFault past is h = absurd h
  script_ends why ScriptFault past is h =
      record { past = past; is = subst (IsNoScriptFrom run.script) h.0 is; written = subst (λ e. Writes run.out (no_script_text e)) h.0 h.1 }
  script_ends why Output past is h = absurd h
  script_ends why Memory past is h = ((past.command, past.asked), h)

  pub show_ends : (ts : ℕ) (status : Status) → AsksFor words (Show ts) → AfterLog run.log run.out (λ l. TextEnds (rows_text (rows_at_end l ts)) run.out) status → IsRun words run status
  show_ends ts status asked (inl h) = text_ends (Show ts) (rows_text (rows_at_end h.0 ts)) status asked (record { log = h.0; read = h.1; is = refl }) h.2
  show_ends ts status asked (inr h) = log_ends (Show ts) h.0 status asked refl h.1 h.2

  counts_end : (log : Entries) (status : Status) → AsksFor words Check → ReadsLog run.log log → CountsFrom (length log.entries) run.script run.out status → IsRun words run status
  counts_end log status asked read (inl h) = text_ends Check _ status asked (record { log = log; read = read; script = h.0; says = h.1; is = refl }) h.2
  counts_end log status asked read (inr h) = script_ends h.0 status (record { command = Check; asked = asked; reads = refl; log = log; read = read }) h.1 h.2

  pub check_ends : (status : Status) → AsksFor words Check → AfterLog run.log run.out (λ l. CountsFrom (length l.entries) run.script run.out) status → IsRun words run status
  check_ends status asked (inl h) = counts_end h.0 status asked h.1 h.2
  check_ends status asked (inr h) = log_ends Check h.0 status asked refl h.1 h.2

  pub usage_ends : (status : Status) → status ≡ Usage → (IsCommand words → ⊥) → Writes run.out (codes "refused words\n") → IsRun words run status
  usage_ends status is none written = subst (IsRun words run) (sym is) (none, written)
