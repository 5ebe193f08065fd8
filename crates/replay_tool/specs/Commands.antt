-- The commands: which sources each reads, with which statuses it may end, and what it writes where all is done.
use Rattle.std.specs.Prelude.{◌≡◌, ℕ, Bool, true, false, List, [], ◌∷◌, length}
use Rattle.log_file.specs.Passages.{Passage, source_passage, sink_passage}
use Rattle.log_file.specs.Reads.{ReadsLog}
use Rattle.log_rows.specs.Texts.{rows_text}
use Rattle.committed_log.specs.Log.{Log}
use Rattle.committed_log.specs.Reads.{rows_at_end}
use Rattle.flash_io.specs.declared.stream.Source.{Ghosts as SourceGhosts}
use Rattle.flash_io.specs.declared.stream.Sink.{Ghosts as SinkGhosts}
use Rattle.tool_text.specs.Words.{AsksFor}
use Rattle.tool_text.specs.declared.words.Words.{Words}
use Rattle.tool_text.specs.declared.words.Words.TheVariants.{Show, Check, Replay, Gen}
use Rattle.tool_text.specs.declared.script.Script.{Script}
use Rattle.replay_tool.specs.Texts.{check_text}
use Rattle.replay_tool.specs.Scripts.{ReadsScript}

abbrev pub reads_log : Words → Bool
reads_log (Show ts) = true
reads_log Check = true
reads_log (Replay settle) = true
reads_log (Gen n) = false

abbrev pub reads_script : Words → Bool
reads_script (Show ts) = false
reads_script Check = true
reads_script (Replay settle) = true
reads_script (Gen n) = false

abbrev pub statuses_of : Words → List ℕ
statuses_of (Show ts) = 0 ∷ 3 ∷ 5 ∷ 8 ∷ 9 ∷ []
statuses_of Check = 0 ∷ 3 ∷ 4 ∷ 5 ∷ 6 ∷ 8 ∷ 9 ∷ []
statuses_of (Replay settle) = 0 ∷ 3 ∷ 4 ∷ 5 ∷ 6 ∷ 7 ∷ 8 ∷ 9 ∷ 10 ∷ 14 ∷ []
statuses_of (Gen n) = 0 ∷ 7 ∷ 8 ∷ 9 ∷ 10 ∷ 14 ∷ []

-- ---- what a run was told

-- what the log's and the script's source and the sink tell before and after
pub record Run : Type 0 where
  pub log : Passage
  pub script : Passage
  pub out : Passage

abbrev pub run_of : {L S W : Type 0} → SourceGhosts L → SourceGhosts S → SinkGhosts W → L → L → S → S → W → W → Run
run_of l s w log log' script script' out out' = record { log = source_passage l log log'; script = source_passage s script script'; out = sink_passage w out out' }

-- ---- what is written where all is done

-- `show`: the rows that a read at the timestamp is shown at the log's end
pub record ShowsRows (ts : ℕ) (run : Run) (text : List ℕ) : Type 0 where
  pub log : Log
  pub read : ReadsLog run.log log
  pub is : text ≡ rows_text (rows_at_end log ts)

-- `check`: how many entries the log has, and how many reads the script
pub record Counts (run : Run) (text : List ℕ) : Type 0 where
  pub log : Log
  pub read : ReadsLog run.log log
  pub script : Script
  pub says : ReadsScript run.script script
  pub is : text ≡ check_text (length log.entries) (length script.reads)

abbrev pub IsTextFor : Words → Run → List ℕ → Type 0
IsTextFor (Show ts) run text = ShowsRows ts run text
IsTextFor Check run text = Counts run text
IsTextFor (Replay settle) run text = ⊥
IsTextFor (Gen n) run text = ⊥

-- it is the text of the command that the words ask for
pub record Answers (words : List (List ℕ)) (run : Run) (text : List ℕ) : Type 0 where
  pub command : Words
  pub asked : AsksFor words command
  pub is : IsTextFor command run text
