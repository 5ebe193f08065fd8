-- What sources and sinks tell before and after a run, or a part of one.
use Rattle.std.specs.Prelude.{ℕ, ◌≤◌, ◌⊎◌, List, length, Option}
use Rattle.std.specs.Io.KnownBytes.{Consumes, Appends, IsAtEnd, Keeps}
use Rattle.flash_io.specs.Faults.{Rose}
use Rattle.flash_io.specs.Streams.{ReadsPast, ReadsWithin, TakesFront}
use Rattle.flash_io.specs.declared.stream.Source.{Ghosts as SourceGhosts}
use Rattle.flash_io.specs.declared.stream.Sink.{Ghosts as SinkGhosts}

-- the bytes that a source has left, or that a sink holds, where it tells them; and how often its calls have failed
pub record Told : Type 0 where
  pub bytes : Option (List ℕ)
  pub faults : ℕ

pub record Passage : Type 0 where
  pub before : Told
  pub after : Told

abbrev pub source_passage : {S : Type 0} → SourceGhosts S → S → S → Passage
source_passage s old new = record {
  before = record { bytes = s.left old; faults = s.fault_count old };
  after = record { bytes = s.left new; faults = s.fault_count new };
}

abbrev pub sink_passage : {W : Type 0} → SinkGhosts W → W → W → Passage
sink_passage w old new = record {
  before = record { bytes = w.contents old; faults = w.fault_count old };
  after = record { bytes = w.contents new; faults = w.fault_count new };
}

-- a call failed
abbrev pub Fails : Passage → Type 0
Fails p = Rose p.before.faults p.after.faults

-- ---- sources

-- it was read to its end, and these were its bytes, at most so many
pub record Reads (most : ℕ) (p : Passage) (bytes : List ℕ) : Type 0 where
  pub consumed : Consumes p.before.bytes p.after.bytes bytes
  pub ended : IsAtEnd p.after.bytes
  pub within : length bytes ≤ most

-- more bytes than so many were read
abbrev pub ReadsBeyond : ℕ → Passage → Type 0
ReadsBeyond most p = ReadsPast most p.before.bytes p.after.bytes

-- no more bytes than so many were read
abbrev pub StaysWithin : ℕ → Passage → Type 0
StaysWithin most p = ReadsWithin most p.before.bytes p.after.bytes

-- a read failed, behind no more bytes than so many
abbrev pub ReadFails : ℕ → Passage → Type 0
ReadFails most p = Fails p × StaysWithin most p

-- ---- sinks

abbrev pub WritesAll : Passage → List ℕ → Type 0
WritesAll p text = Appends p.before.bytes p.after.bytes text

-- a write failed, behind a front of the text
abbrev pub WritesFront : Passage → List ℕ → Type 0
WritesFront p text = Fails p × TakesFront p.before.bytes p.after.bytes text

-- the text was written, or a front of it, where a write failed
abbrev pub Writes : Passage → List ℕ → Type 0
Writes p text = WritesAll p text ⊎ WritesFront p text

abbrev pub WritesNothing : Passage → Type 0
WritesNothing p = Keeps p.before.bytes p.after.bytes
