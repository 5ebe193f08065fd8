-- Writing and reading agree.
use Rattle.std.specs.Prelude.{◌≡◌, ℕ, ◌+◌, List, ◌++◌, length, drop, Result, Ok}
use Rattle.log_codec.specs.declared.entry.Entry.{Entry}
use Rattle.log_codec.specs.declared.entry.Frame.{Frame}
use Rattle.log_codec.specs.declared.header.Header.{Header}
use Rattle.log_codec.specs.Header.{headed}
use Rattle.log_codec.specs.Frames.{framed}
use Rattle.log_codec.specs.Spelling as spelling
use Rattle.log_codec.specs.Writable.{AreBytes, CanBeWritten, NumbersFit, HeaderCanBeWritten, HeaderNumbersFit}

-- A frame that is written is read again as its entry, whatever stands before and behind it, and ends where it was written to end.
abbrev pub FramesAreReadAgain : Type 0
FramesAreReadAgain = (before : List ℕ) (e : Entry) (rest : List ℕ) → CanBeWritten e → NumbersFit e
    → framed (before ++ (spelling.frame e ++ rest)) (length before) ≡ Ok (record { entry = e; end = length before + length (spelling.frame e) })

-- A frame that is read is the spelling of its entry, which can be written; so no other bytes are read as that entry.
abbrev pub FramesHaveOneSpelling : Type 0
FramesHaveOneSpelling = (bytes : List ℕ) (at : ℕ) (frame : Frame) → AreBytes bytes → framed bytes at ≡ Ok frame
    → (drop at bytes ≡ spelling.frame frame.entry ++ drop frame.end bytes) × (CanBeWritten frame.entry × NumbersFit frame.entry)

abbrev pub HeadersAreReadAgain : Type 0
HeadersAreReadAgain = (h : Header) (rest : List ℕ) → HeaderCanBeWritten h → HeaderNumbersFit h → headed (spelling.header h ++ rest) ≡ Ok (h, length (spelling.header h))

abbrev pub HeadersHaveOneSpelling : Type 0
HeadersHaveOneSpelling = (bytes : List ℕ) (x : Header × ℕ) → AreBytes bytes → headed bytes ≡ Ok x
    → (bytes ≡ spelling.header x.0 ++ drop x.1 bytes) × (HeaderCanBeWritten x.0 × HeaderNumbersFit x.0)
