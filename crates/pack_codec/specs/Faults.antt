-- How a reader of the program answers what a reading answers.
use Rattle.std.specs.Prelude.{◌≡◌, ℕ, ◌-◌, List, length, Result, Ok, Err}
use Rattle.pack_codec.specs.declared.fault.FormError.{FormError}
use Rattle.pack_codec.specs.declared.fault.FormError.TheVariants.{Damaged, Memory}

-- It fails as the reading does, or for want of memory.
abbrev pub Fails : {Y : Type 0} → FormError → Result Y FormError → Type 0
Fails Memory read = Unit {0}
Fails (Damaged at) read = read ≡ Err (Damaged at)

-- What it returned, seen by view, is what the reading gives, unless memory ran out.
abbrev pub Gives : {X Y : Type 0} → (X → Y) → Result X FormError → Result Y FormError → Type 0
Gives view (Ok x) read = read ≡ Ok (view x)
Gives view (Err e) read = Fails e read

-- The fault of what stands in front of these bytes. `end` is the place behind them in the file.
abbrev pub here : ℕ → List ℕ → FormError
here end bytes = Damaged (end - length bytes)
