-- Log files: a header, and the frames of a lawful log's entries. And what is refused: the header, or the first frame that isn't one of these.
use Rattle.std.specs.Prelude.{◌≡◌, ◌⊎◌, ℕ, suc, ◌<◌, List, [], ◌∷◌, length, Some, Result, Ok, Err}
use Rattle.log_codec.specs.declared.header.Header.{Header}
use Rattle.log_codec.specs.declared.entry.Entry.{Entry}
use Rattle.log_codec.specs.declared.entry.Frame.{Frame}
use Rattle.log_codec.specs.declared.fault.FrameError.{FrameError}
use Rattle.log_codec.specs.declared.fault.FrameError.TheVariants as frame
use Rattle.log_codec.specs.Header.{headed}
use Rattle.log_codec.specs.Frames.{framed}
use Rattle.committed_log.specs.Log.{Log}
use Rattle.committed_log.specs.Lawful.{IsLawful, fault}
use Rattle.committed_log.specs.declared.unlawful.Unlawful.{Unlawful}
use Rattle.committed_log.specs.declared.unlawful.Unlawful.TheVariants as unlawful
use Rattle.log_file.specs.Values.{columns_of}
use Rattle.log_file.specs.declared.cause.Cause.{Cause}
use Rattle.log_file.specs.declared.cause.Cause.TheVariants.{OfFrame, OfEntry}
use Rattle.log_file.specs.declared.cause.Refusal.{Refusal}
use Rattle.log_file.specs.declared.log.LogError.{LogError}
use Rattle.log_file.specs.declared.log.LogError.TheVariants.{Limit, Refused, Failed, Memory}

-- the frames of these entries stand in the file from one place to another
abbrev pub FramesTo : List ℕ → ℕ → List Entry → ℕ → Type 0
FramesTo bytes from [] to = from ≡ to
FramesTo bytes from (entry ∷ entries) to = (from < length bytes) × ((end : ℕ) × (framed bytes from ≡ Ok (record { entry = entry; end = end })) × FramesTo bytes end entries to)

-- the file begins with a header and the frames of a lawful log's entries, which end at a place
pub record IsReadTo (bytes : List ℕ) (log : Log) (to : ℕ) : Type 0 where
  pub header : Header
  pub from : ℕ
  pub read : headed bytes ≡ Ok (header, from)
  pub table : log.table ≡ header.table
  pub schema : log.schema ≡ columns_of header.columns
  pub frames : FramesTo bytes from log.entries to
  pub lawful : IsLawful log

-- the file is a lawful log's
abbrev pub IsLogFile : List ℕ → Log → Type 0
IsLogFile bytes log = IsReadTo bytes log (length bytes)

-- ---- refusals

pub record IsHeaderRefused (bytes : List ℕ) (r : Refusal) : Type 0 where
  pub error : FrameError
  pub read : headed bytes ≡ Err error
  pub frame : r.frame ≡ 0
  pub cause : r.cause ≡ OfFrame error

-- why a frame can't stand behind a log: it is none, or its entry has a fault
abbrev pub IsCause : Log → Result Frame FrameError → Cause → Type 0
IsCause log (Err error) cause = cause ≡ OfFrame error
IsCause log (Ok read) cause = (why : Unlawful) × (fault log read.entry ≡ Some why) × (cause ≡ OfEntry why)

-- the first frame that can't stand, counted from 1, behind those of a lawful log's entries
pub record IsFrameRefused (bytes : List ℕ) (r : Refusal) : Type 0 where
  pub log : Log
  pub at : ℕ
  pub before : IsReadTo bytes log at
  pub within : at < length bytes
  pub frame : r.frame ≡ suc (length log.entries)
  pub cause : IsCause log (framed bytes at) r.cause

abbrev pub IsRefused : List ℕ → Refusal → Type 0
IsRefused bytes r = IsHeaderRefused bytes r ⊎ IsFrameRefused bytes r

-- why bytes are no log
abbrev pub IsErrorOf : List ℕ → LogError → Type 0
IsErrorOf bytes (Refused r) = IsRefused bytes r
IsErrorOf bytes Memory = Unit {0}
IsErrorOf bytes Limit = ⊥
IsErrorOf bytes Failed = ⊥

-- ---- errors of the layers below

abbrev pub from_frame : ℕ → FrameError → LogError
from_frame number frame.Memory = Memory
from_frame number error = Refused (record { frame = number; cause = OfFrame error })

abbrev pub from_entry : ℕ → Unlawful → LogError
from_entry number unlawful.Memory = Memory
from_entry number error = Refused (record { frame = number; cause = OfEntry error })
