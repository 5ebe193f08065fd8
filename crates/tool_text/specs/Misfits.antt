-- How a reader of the program answers what a reading answers.
use Rattle.std.specs.Prelude.{◌≡◌, ℕ, List, Result, Ok, Err}
use Rattle.tool_text.specs.Reading.{path_to}
use Rattle.tool_text.specs.Scripts.{told}
use Rattle.tool_text.specs.declared.script.ScriptError.{ScriptError}
use Rattle.tool_text.specs.declared.script.ScriptError.TheVariants as error
use Rattle.tool_text.specs.declared.misfit.Misfit.{Misfit}
use Rattle.tool_text.specs.declared.misfit.Misfit.TheVariants.{At, Memory}

-- It fails where the reading does, or for want of memory.
abbrev pub Fails : {A : Type 0} → Misfit → Result A (List ℕ) → Type 0
Fails Memory reading = Unit {0}
Fails (At path) reading = reading ≡ Err path

-- What it returned is what the reading gives, unless memory ran out.
abbrev pub Gives : {A : Type 0} → Result A Misfit → Result A (List ℕ) → Type 0
Gives (Ok x) reading = reading ≡ Ok x
Gives (Err misfit) reading = Fails misfit reading

-- this path, unless memory ran out
abbrev pub IsAt : List ℕ → Misfit → Type 0
IsAt path Memory = Unit {0}
IsAt path (At at) = at ≡ path

-- what stood at a path stands under this name, unless memory ran out
abbrev pub IsInside : List ℕ → Misfit → Misfit → Type 0
IsInside name Memory Memory = Unit {0}
IsInside name Memory (At at) = ⊥
IsInside name (At path) Memory = Unit {0}
IsInside name (At path) (At at) = at ≡ path_to name path

-- the path is told, unless memory ran out
abbrev pub Tells : Misfit → ScriptError → Type 0
Tells misfit error.Memory = Unit {0}
Tells (At at) (error.Field path) = path ≡ told at
Tells misfit other = ⊥
