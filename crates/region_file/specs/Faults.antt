-- How a reader of the program answers what a reading answers.
use Rattle.std.specs.Prelude.{◌≡◌, Result, Ok, Err}
use Rattle.region_file.specs.declared.fault.TableError.{TableError}
use Rattle.region_file.specs.declared.fault.TableError.TheVariants.{Damaged, Memory}

-- It fails as the reading does, or for want of memory.
abbrev pub Fails : {Y : Type 0} → TableError → Result Y TableError → Type 0
Fails Memory read = Unit {0}
Fails (Damaged at) read = read ≡ Err (Damaged at)

-- What it returned, seen by view, is what the reading gives, unless memory ran out.
abbrev pub Gives : {X Y : Type 0} → (X → Y) → Result X TableError → Result Y TableError → Type 0
Gives view (Ok x) read = read ≡ Ok (view x)
Gives view (Err e) read = Fails e read
