-- How a reader of the program answers what a reading answers.
use Rattle.std.specs.Prelude.{◌≡◌, Result, Ok, Err}
use Rattle.column_codec.specs.declared.fault.CodecError.{CodecError}
use Rattle.column_codec.specs.declared.fault.CodecError.TheVariants.{Short, BadByte, Long, Memory}

-- It fails as the reading does, or for want of memory.
abbrev pub Fails : {Y : Type 0} → CodecError → Result Y CodecError → Type 0
Fails Memory read = Unit {0}
Fails (Short at) read = read ≡ Err (Short at)
Fails (BadByte at) read = read ≡ Err (BadByte at)
Fails (Long at) read = read ≡ Err (Long at)

-- What it returned, seen by view, is what the reading gives, unless memory ran out.
abbrev pub Gives : {X Y : Type 0} → (X → Y) → Result X CodecError → Result Y CodecError → Type 0
Gives view (Ok x) read = read ≡ Ok (view x)
Gives view (Err e) read = Fails e read
