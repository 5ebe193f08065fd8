-- How a reader of the program answers what a reading answers.
use Rattle.std.specs.Prelude.{◌≡◌, Result, Ok, Err}
use Rattle.manifest_form.specs.declared.fault.Fault.{Fault}
use Rattle.manifest_form.specs.declared.fault.Fault.TheVariants.{At, Version, Memory}

-- It fails as the reading does, or for want of memory.
abbrev pub Fails : {Y : Type 0} → Fault → Result Y Fault → Type 0
Fails Memory read = Unit {0}
Fails (At at) read = read ≡ Err (At at)
Fails (Version found) read = read ≡ Err (Version found)

-- What it returned, seen by view, is what the reading gives, unless memory ran out.
abbrev pub Gives : {X Y : Type 0} → (X → Y) → Result X Fault → Result Y Fault → Type 0
Gives view (Ok x) read = read ≡ Ok (view x)
Gives view (Err e) read = Fails e read
