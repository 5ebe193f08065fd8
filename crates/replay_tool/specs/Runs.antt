-- How a run may end, and what it has read and written by then.
use Rattle.std.specs.Prelude.{◌≡◌, ◌⊎◌, ℕ, ◌≤◌, true, false, List, [], ◌∷◌, length, codes, Contains, Some}
use Rattle.std.specs.Io.KnownBytes.{IsAtEnd}
use Rattle.log_file.specs.Passages.{Passage, Fails, WritesAll, WritesFront, Writes, WritesNothing}
use Rattle.log_file.specs.Logs.{IsLogFile}
use Rattle.log_file.specs.Reads.{most_log, ReadsLog, IsErrorFrom, log_error_text}
use Rattle.log_file.specs.declared.log.LogError.{LogError}
use Rattle.log_file.specs.declared.log.LogError.TheVariants as unread
use Rattle.committed_log.specs.Log.{Log as Entries}
use Rattle.tool_text.specs.Words.{AsksFor, IsCommand}
use Rattle.tool_text.specs.Scripts.{IsScript}
use Rattle.tool_text.specs.declared.words.Words.{Words}
use Rattle.tool_text.specs.declared.script.Script.{Script as Said}
use Rattle.tool_text.specs.declared.script.ScriptError.TheVariants as error
use Rattle.replay_tool.specs.Scripts.{IsNoScriptFrom, ReadsScript, no_script_text}
use Rattle.replay_tool.specs.Commands.{Run, reads_log, reads_script, statuses_of, Answers}
use Rattle.replay_tool.specs.Texts.{check_text}
use Rattle.replay_tool.specs.declared.script.NoScript.{NoScript}
use Rattle.replay_tool.specs.declared.script.NoScript.TheVariants as unreadable
use Rattle.replay_tool.specs.declared.status.Status.{Status}
use Rattle.replay_tool.specs.declared.status.Status.TheVariants.{Done, Usage, Log, Script, LogFault, ScriptFault, Output, Memory}

abbrev pub code_of : Status → ℕ
code_of Done = 0
code_of Usage = 2
code_of Log = 3
code_of Script = 4
code_of LogFault = 5
code_of ScriptFault = 6
code_of Output = 8
code_of Memory = 9

-- ---- how a run ends

-- the words are a command that reads the log
pub record AskForLog (words : List (List ℕ)) : Type 0 where
  pub command : Words
  pub asked : AsksFor words command
  pub reads : reads_log command ≡ true

-- the words are a command that reads the script, and the log was read as a lawful one
pub record IsPastLog (words : List (List ℕ)) (run : Run) : Type 0 where
  pub command : Words
  pub asked : AsksFor words command
  pub reads : reads_script command ≡ true
  pub log : Entries
  pub read : ReadsLog run.log log

-- the run ends at the log, and its line says why
pub record EndsAtLog (words : List (List ℕ)) (run : Run) (why : LogError) : Type 0 where
  pub asked : AskForLog words
  pub is : IsErrorFrom run.log why
  pub written : Writes run.out (log_error_text why)

-- the run ends at the script, and its line says why
pub record EndsAtScript (words : List (List ℕ)) (run : Run) (why : NoScript) : Type 0 where
  pub past : IsPastLog words run
  pub is : IsNoScriptFrom run.script why
  pub written : Writes run.out (no_script_text why)

-- more bytes than a log may have, or a header or a frame that is refused
abbrev pub IsLogRefusal : LogError → Type 0
IsLogRefusal unread.Limit = Unit {0}
IsLogRefusal (unread.Refused r) = Unit {0}
IsLogRefusal other = ⊥

-- more bytes than a script may have, no JSON, or a field that isn't as it must be
abbrev pub IsScriptRefusal : NoScript → Type 0
IsScriptRefusal (unreadable.Refused why) = why ≡ error.Memory → ⊥
IsScriptRefusal unreadable.Failed = ⊥

abbrev pub RefusesLog : List (List ℕ) → Run → Type 0
RefusesLog words run = (why : LogError) × IsLogRefusal why × EndsAtLog words run why

abbrev pub RefusesScript : List (List ℕ) → Run → Type 0
RefusesScript words run = (why : NoScript) × IsScriptRefusal why × EndsAtScript words run why

-- the command wrote its whole text
abbrev pub Answered : List (List ℕ) → Run → Type 0
Answered words run = (text : List ℕ) × Answers words run text × WritesAll run.out text

-- a write of the command's text failed, behind a front of it
abbrev pub AnsweredInPart : List (List ℕ) → Run → Type 0
AnsweredInPart words run = (text : List ℕ) × Answers words run text × WritesFront run.out text

-- the run ends with this status
abbrev pub IsRun : List (List ℕ) → Run → Status → Type 0
IsRun words run Done = Answered words run
IsRun words run Usage = (IsCommand words → ⊥) × Writes run.out (codes "refused words\n")
IsRun words run Log = RefusesLog words run
IsRun words run Script = RefusesScript words run
IsRun words run LogFault = EndsAtLog words run unread.Failed
IsRun words run ScriptFault = EndsAtScript words run unreadable.Failed
IsRun words run Output = AnsweredInPart words run
IsRun words run Memory = IsCommand words × WritesNothing run.out

-- ---- what its number says

-- it is one of the program's, and of those of the command that is asked for
pub record IsAnswer (words : List (List ℕ)) (code : ℕ) : Type 0 where
  pub some : Contains (0 ∷ 2 ∷ 3 ∷ 4 ∷ 5 ∷ 6 ∷ 8 ∷ 9 ∷ []) code
  pub of_command : (command : Words) → AsksFor words command → Contains (statuses_of command) code

-- what is as it was handed in: both sources where the words are no command, the script where the log is refused or fails, and each source that the command doesn't read
pub record LeavesUnread {L S : Type 0} (words : List (List ℕ)) (code : ℕ) (log log' : L) (script script' : S) : Type 0 where
  pub at_usage : code ≡ 2 → (log' ≡ log) × (script' ≡ script)
  pub at_log : (code ≡ 3) ⊎ (code ≡ 5) → script' ≡ script
  pub log_kept : (command : Words) → AsksFor words command → reads_log command ≡ false → log' ≡ log
  pub script_kept : (command : Words) → AsksFor words command → reads_script command ≡ false → script' ≡ script

-- 3: the log is refused. 4: the script is. The line says why.
pub record Refuses (words : List (List ℕ)) (code : ℕ) (run : Run) : Type 0 where
  pub log : code ≡ 3 → RefusesLog words run
  pub script : code ≡ 4 → RefusesScript words run

-- 5: a read of the log failed, behind no more bytes than a log may have. 6: the same of the script. 8: a write failed.
pub record HasFault (words : List (List ℕ)) (code : ℕ) (run : Run) : Type 0 where
  pub log : code ≡ 5 → EndsAtLog words run unread.Failed
  pub script : code ≡ 6 → EndsAtScript words run unreadable.Failed
  pub out : code ≡ 8 → Fails run.out

-- each source that the command reads is at its end
pub record ReadsWhole (words : List (List ℕ)) (run : Run) : Type 0 where
  pub log : (command : Words) → AsksFor words command → reads_log command ≡ true → IsAtEnd run.log.after.bytes
  pub script : (command : Words) → AsksFor words command → reads_script command ≡ true → IsAtEnd run.script.after.bytes

-- the number is that of a status with which the run ends
abbrev pub EndsWith : List (List ℕ) → ℕ → Run → Type 0
EndsWith words code run = (status : Status) × (code ≡ code_of status) × IsRun words run status

-- the source tells a lawful log of no more bytes than a log may have
pub record TellsLog (p : Passage) : Type 0 where
  pub bytes : List ℕ
  pub told : p.before.bytes ≡ Some bytes
  pub few : length bytes ≤ most_log
  pub log : Entries
  pub file : IsLogFile bytes log

-- the source tells a script
pub record TellsScript (p : Passage) : Type 0 where
  pub bytes : List ℕ
  pub told : p.before.bytes ≡ Some bytes
  pub script : Said
  pub says : IsScript bytes script

pub record NothingFails (run : Run) : Type 0 where
  pub log : Fails run.log → ⊥
  pub script : Fails run.script → ⊥
  pub out : Fails run.out → ⊥

-- a command that is told all that it reads, and that nothing fails, is done, or memory runs out
abbrev pub IsComplete : List (List ℕ) → ℕ → Run → Type 0
IsComplete words code run = (command : Words) → AsksFor words command → (reads_log command ≡ true → TellsLog run.log) → (reads_script command ≡ true → TellsScript run.script)
    → NothingFails run → (code ≡ 0) ⊎ (code ≡ 9)

-- ---- the parts of a run

-- how writing a text ends
abbrev pub TextEnds : List ℕ → Passage → Status → Type 0
TextEnds text out Done = WritesAll out text
TextEnds text out Output = WritesFront out text
TextEnds text out Memory = WritesNothing out
TextEnds text out other = ⊥

-- how telling why there is no log ends
abbrev pub LogErrorEnds : LogError → Passage → Status → Type 0
LogErrorEnds why out Log = IsLogRefusal why × Writes out (log_error_text why)
LogErrorEnds why out LogFault = (why ≡ unread.Failed) × Writes out (log_error_text why)
LogErrorEnds why out Memory = WritesNothing out
LogErrorEnds why out other = ⊥

-- how telling why there is no script ends
abbrev pub NoScriptEnds : NoScript → Passage → Status → Type 0
NoScriptEnds why out Script = IsScriptRefusal why × Writes out (no_script_text why)
NoScriptEnds why out ScriptFault = (why ≡ unreadable.Failed) × Writes out (no_script_text why)
NoScriptEnds why out Memory = WritesNothing out
NoScriptEnds why out other = ⊥

-- how a command ends that reads the log: as it says of a lawful one, or with why there is none
abbrev pub AfterLog : Passage → Passage → (Entries → Status → Type 0) → Status → Type 0
AfterLog log out Ends status = ((l : Entries) × ReadsLog log l × Ends l status) ⊎ ((why : LogError) × IsErrorFrom log why × LogErrorEnds why out status)

-- the same of the script
abbrev pub AfterScript : Passage → Passage → (Said → Status → Type 0) → Status → Type 0
AfterScript script out Ends status = ((s : Said) × ReadsScript script s × Ends s status) ⊎ ((why : NoScript) × IsNoScriptFrom script why × NoScriptEnds why out status)

-- how counting a script's reads ends, beside so many entries
abbrev pub CountsFrom : ℕ → Passage → Passage → Status → Type 0
CountsFrom entries script out status = AfterScript script out (λ s. TextEnds (check_text entries (length s.reads)) out) status
