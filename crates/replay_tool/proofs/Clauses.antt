-- What a run's number says.
use Rattle.std.proofs.Common.{◌≡◌, ◌⊎◌, inl, inr, ◌∙◌, refl, ap, subst, ℕ, Bool, true, false, List, [], ◌∷◌, arith}
use Rattle.std.specs.Prelude.{◌↔◌, Contains}
use Rattle.std.specs.Io.KnownBytes.{IsAtEnd}
use Rattle.log_file.specs.declared.log.LogError.{LogError}
use Rattle.log_file.specs.declared.log.LogError.TheVariants as unread
use Rattle.log_file.proofs.Sources.{reads_beyond_not, reads_these, not_refused}
use Rattle.log_file.specs.Reads.{most_log, IsErrorFrom}
use Rattle.tool_text.specs.Words.{AsksFor, IsCommand}
use Rattle.tool_text.specs.Scripts.{IsErrorOf, most_script}
use Rattle.tool_text.proofs.NoErrors.{no_error}
use Rattle.tool_text.proofs.OneCommand.{asks_once}
use Rattle.tool_text.specs.declared.words.Words.{Words}
use Rattle.tool_text.specs.declared.words.Words.TheVariants.{Show, Check, Replay, Gen}
use Rattle.tool_text.specs.declared.script.ScriptError.{ScriptError}
use Rattle.tool_text.specs.declared.script.ScriptError.TheVariants as error
use Rattle.replay_tool.specs.Scripts.{RefusesScript as NotRead}
use Rattle.replay_tool.specs.Commands.{Run, reads_log, reads_script, statuses_of, IsTextFor}
use Rattle.replay_tool.specs.Runs.{IsRun, code_of, IsAnswer, LeavesUnread, Refuses, HasFault, Answered, ReadsWhole, IsComplete, TellsLog, TellsScript, IsLogRefusal, IsScriptRefusal, EndsAtScript}
use Rattle.replay_tool.specs.declared.script.NoScript.{NoScript}
use Rattle.replay_tool.specs.declared.script.NoScript.TheVariants as unreadable
use Rattle.replay_tool.specs.declared.status.Status.{Status}
use Rattle.replay_tool.specs.declared.status.Status.TheVariants.{Done, Usage, Log, Script, LogFault, ScriptFault, Output, Memory}
use Rattle.replay_tool.proofs.Statuses.{same_status}

not_both : (b : Bool) → b ≡ true → b ≡ false → ⊥
not_both true is other = absurd cc
not_both false is other = absurd cc

module _ (words : List (List ℕ)) (run : Run) where
  -- a run that ends with a number ends with its status
  ends_as : (wanted status : Status) → IsRun words run status → code_of status ≡ code_of wanted → IsRun words run wanted
  ends_as wanted status h is = subst (IsRun words run) (same_status status wanted is) h

  -- the words of a run that doesn't end with 2 are a command
  command_of : (status : Status) → IsRun words run status → (code_of status ≡ 2) ⊎ IsCommand words
  command_of Done h = inr (h.1.command, h.1.asked)
  command_of Usage h = inl refl
  command_of Log h = inr (h.2.asked.command, h.2.asked.asked)
  command_of Script h = inr (h.2.past.command, h.2.past.asked)
  command_of LogFault h = inr (h.asked.command, h.asked.asked)
  command_of ScriptFault h = inr (h.past.command, h.past.asked)
  command_of Output h = inr (h.1.command, h.1.asked)
  command_of Memory h = inr h.0

  no_command : (status : Status) → IsRun words run status → code_of status ≡ 2 → IsCommand words → ⊥
  no_command status h is = (ends_as Usage status h is).0

  is_usage : (code : ℕ) → (code ≡ 2) ⊎ IsCommand words → (IsCommand words → ⊥) → code ≡ 2
  is_usage code (inl is) none = is
  is_usage code (inr some) none = absurd (none some)

  pub words_clause : (status : Status) → IsRun words run status → (code_of status ≡ 2) ↔ (IsCommand words → ⊥)
  words_clause status h = (no_command status h, λ none. is_usage (code_of status) (command_of status h) none)

  -- ---- the statuses of a command

  of_show : (ts : ℕ) (status : Status) → AsksFor words (Show ts) → IsRun words run status → Contains (statuses_of (Show ts)) (code_of status)
  of_show ts Done asked h = (0, omega arith, refl)
  of_show ts Usage asked h = absurd (h.0 (Show ts, asked))
  of_show ts Log asked h = (1, omega arith, refl)
  of_show ts Script asked h = let past = h.2.past in absurd (not_both (reads_script past.command) past.reads (ap reads_script (asks_once words past.command (Show ts) past.asked asked)))
  of_show ts LogFault asked h = (2, omega arith, refl)
  of_show ts ScriptFault asked h = let past = h.past in absurd (not_both (reads_script past.command) past.reads (ap reads_script (asks_once words past.command (Show ts) past.asked asked)))
  of_show ts Output asked h = (3, omega arith, refl)
  of_show ts Memory asked h = (4, omega arith, refl)

  of_check : (status : Status) → AsksFor words Check → IsRun words run status → Contains (statuses_of Check) (code_of status)
  of_check Done asked h = (0, omega arith, refl)
  of_check Usage asked h = absurd (h.0 (Check, asked))
  of_check Log asked h = (1, omega arith, refl)
  of_check Script asked h = (2, omega arith, refl)
  of_check LogFault asked h = (3, omega arith, refl)
  of_check ScriptFault asked h = (4, omega arith, refl)
  of_check Output asked h = (5, omega arith, refl)
  of_check Memory asked h = (6, omega arith, refl)

  of_command : (status : Status) → IsRun words run status → (command : Words) → AsksFor words command → Contains (statuses_of command) (code_of status)
  of_command status h (Show ts) asked = of_show ts status asked h
  of_command status h Check asked = of_check status asked h
  of_command status h (Replay settle) asked = absurd asked
  of_command status h (Gen n) asked = absurd asked

  some : (status : Status) → Contains (0 ∷ 2 ∷ 3 ∷ 4 ∷ 5 ∷ 6 ∷ 8 ∷ 9 ∷ []) (code_of status)
  some Done = (0, omega arith, refl)
  some Usage = (1, omega arith, refl)
  some Log = (2, omega arith, refl)
  some Script = (3, omega arith, refl)
  some LogFault = (4, omega arith, refl)
  some ScriptFault = (5, omega arith, refl)
  some Output = (6, omega arith, refl)
  some Memory = (7, omega arith, refl)

  pub answers_clause : (status : Status) → IsRun words run status → IsAnswer words (code_of status)
  answers_clause status h = record { some = some status; of_command = of_command status h }

  -- ---- one status

  pub refused_clause : (status : Status) → IsRun words run status → Refuses words (code_of status) run
  refused_clause status h = record { log = ends_as Log status h; script = ends_as Script status h }

  pub fault_clause : (status : Status) → IsRun words run status → HasFault words (code_of status) run
  fault_clause status h = record { log = ends_as LogFault status h; script = ends_as ScriptFault status h; out = λ is. (ends_as Output status h is).2.0 }

  pub answered_clause : (status : Status) → IsRun words run status → code_of status ≡ 0 → Answered words run
  answered_clause status h = ends_as Done status h

  log_whole : (command : Words) (text : List ℕ) → IsTextFor command run text → reads_log command ≡ true → IsAtEnd run.log.after.bytes
  log_whole (Show ts) text is reads = is.read.read.ended
  log_whole Check text is reads = is.read.read.ended
  log_whole (Replay settle) text is reads = absurd is
  log_whole (Gen n) text is reads = absurd is

  script_whole : (command : Words) (text : List ℕ) → IsTextFor command run text → reads_script command ≡ true → IsAtEnd run.script.after.bytes
  script_whole (Show ts) text is reads = absurd cc
  script_whole Check text is reads = is.says.read.ended
  script_whole (Replay settle) text is reads = absurd is
  script_whole (Gen n) text is reads = absurd is

  pub whole_clause : (status : Status) → IsRun words run status → code_of status ≡ 0 → ReadsWhole words run
  whole_clause status h is =
      let done = ends_as Done status h is in
      let same = λ (command : Words) (asked : AsksFor words command). asks_once words done.1.command command done.1.asked asked in
      record {
        log = λ command asked reads. log_whole command done.0 (subst (λ c. IsTextFor c run done.0) (same command asked) done.1.is) reads;
        script = λ command asked reads. script_whole command done.0 (subst (λ c. IsTextFor c run done.0) (same command asked) done.1.is) reads;
      }

  -- ---- where all is told and nothing fails

  lawful_ends : (why : LogError) → TellsLog run.log → IsLogRefusal why → IsErrorFrom run.log why → ⊥
  lawful_ends unread.Limit told refusal is = reads_beyond_not most_log run.log told.bytes told.told told.few is
  lawful_ends (unread.Refused r) told refusal is = not_refused run.log told.bytes told.log r told.told told.file is
  lawful_ends unread.Failed told refusal is = refusal
  lawful_ends unread.Memory told refusal is = refusal

  script_is_read : (why : ScriptError) → TellsScript run.script → NotRead run.script why → (why ≡ error.Memory → ⊥) → ⊥
  script_is_read why told is other =
      let same = reads_these most_script run.script told.bytes is.bytes told.told is.read in
      no_error told.bytes told.script why told.says (subst (λ b. IsErrorOf b why) same is.refused) other

  readable_ends : (why : NoScript) → TellsScript run.script → IsScriptRefusal why → EndsAtScript words run why → ⊥
  readable_ends (unreadable.Refused error.Limit) told refusal h = reads_beyond_not most_script run.script told.bytes told.told told.says.few h.is
  readable_ends (unreadable.Refused error.Text) told refusal h = script_is_read error.Text told h.is (λ e. absurd (cc e))
  readable_ends (unreadable.Refused (error.Field path)) told refusal h = script_is_read (error.Field path) told h.is (λ e. absurd (cc e))
  readable_ends (unreadable.Refused error.Memory) told refusal h = refusal refl
  readable_ends unreadable.Failed told refusal h = refusal

  pub complete_clause : (status : Status) → IsRun words run status → IsComplete words (code_of status) run
  complete_clause Done h command asked log script none = inl refl
  complete_clause Usage h command asked log script none = absurd (h.0 (command, asked))
  complete_clause Log h command asked log script none =
      let it = h.2.asked in
      let reads = ap reads_log (asks_once words command it.command asked it.asked) ∙ it.reads in
      absurd (lawful_ends h.0 (log reads) h.1 h.2.is)
  complete_clause Script h command asked log script none =
      let it = h.2.past in
      let reads = ap reads_script (asks_once words command it.command asked it.asked) ∙ it.reads in
      absurd (readable_ends h.0 (script reads) h.1 h.2)
  complete_clause LogFault h command asked log script none = absurd (none.log h.is.0)
  complete_clause ScriptFault h command asked log script none = absurd (none.script h.is.0)
  complete_clause Output h command asked log script none = absurd (none.out h.2.0)
  complete_clause Memory h command asked log script none = inr refl

  -- ---- what isn't read

  log_is_read : (command : Words) → AsksFor words command → reads_log command ≡ false → ⊥
  log_is_read (Show ts) asked is = absurd cc
  log_is_read Check asked is = absurd cc
  log_is_read (Replay settle) asked is = asked
  log_is_read (Gen n) asked is = asked

  pub show_unread : {L S : Type 0} (ts : ℕ) (status : Status) (log log' : L) (script script' : S) → AsksFor words (Show ts) → IsRun words run status → script' ≡ script → LeavesUnread words (code_of status) log log' script script'
  show_unread ts status log log' script script' asked h same = record {
    at_usage = λ is. absurd (no_command status h is (Show ts, asked));
    at_log = λ is. same;
    log_kept = λ command is reads. absurd (log_is_read command is reads);
    script_kept = λ command is reads. same;
  }

  pub check_unread : {L S : Type 0} (status : Status) (log log' : L) (script script' : S) → AsksFor words Check → IsRun words run status → ((status ≡ Log) ⊎ (status ≡ LogFault) → script' ≡ script) → LeavesUnread words (code_of status) log log' script script'
  check_unread status log log' script script' asked h at_log = record {
    at_usage = λ is. absurd (no_command status h is (Check, asked));
    at_log = λ is. elim is [ inl e ↦ at_log (inl (same_status status Log e)) | inr e ↦ at_log (inr (same_status status LogFault e)) ];
    log_kept = λ command is reads. absurd (log_is_read command is reads);
    script_kept = λ command is reads. absurd (not_both (reads_script command) (ap reads_script (asks_once words command Check is asked)) reads);
  }

pub usage_unread : {L S : Type 0} (words : List (List ℕ)) (code : ℕ) (log : L) (script : S) → LeavesUnread words code log log script script
usage_unread words code log script = record {
  at_usage = λ is. (refl, refl);
  at_log = λ is. refl;
  log_kept = λ command is reads. refl;
  script_kept = λ command is reads. refl;
}
