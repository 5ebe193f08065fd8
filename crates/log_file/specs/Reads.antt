-- Reading a log from a source.
use Rattle.std.specs.Prelude.{ℕ, List, [], codes}
use Rattle.committed_log.specs.Log.{Log}
use Rattle.log_file.specs.Passages.{Passage, Reads, ReadsBeyond, StaysWithin, ReadFails}
use Rattle.log_file.specs.Logs.{IsLogFile, IsRefused}
use Rattle.log_file.specs.Causes.{refusal_text}
use Rattle.log_file.specs.declared.cause.Refusal.{Refusal}
use Rattle.log_file.specs.declared.log.LogError.{LogError}
use Rattle.log_file.specs.declared.log.LogError.TheVariants.{Limit, Refused, Failed, Memory}

-- the most bytes that a log may have
abbrev pub most_log : ℕ
most_log = 268435456

-- the source was read to its end, and its bytes are the file of this lawful log
pub record ReadsLog (p : Passage) (log : Log) : Type 0 where
  pub bytes : List ℕ
  pub read : Reads most_log p bytes
  pub file : IsLogFile bytes log

-- the source was read to its end, and its header or a frame is refused
pub record RefusesLog (p : Passage) (r : Refusal) : Type 0 where
  pub bytes : List ℕ
  pub read : Reads most_log p bytes
  pub refused : IsRefused bytes r

-- why a source gives no log
abbrev pub IsErrorFrom : Passage → LogError → Type 0
IsErrorFrom p Limit = ReadsBeyond most_log p
IsErrorFrom p (Refused r) = RefusesLog p r
IsErrorFrom p Failed = ReadFails most_log p
IsErrorFrom p Memory = StaysWithin most_log p

-- the line of each
abbrev pub log_error_text : LogError → List ℕ
log_error_text Limit = codes "refused log limit\n"
log_error_text (Refused r) = refusal_text r
log_error_text Failed = codes "fault log\n"
log_error_text Memory = []
