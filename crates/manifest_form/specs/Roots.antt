-- What a root names.
use Rattle.std.specs.Prelude.{ℕ, List, Option, Some, None, Result, Ok, Err}
use Rattle.std.specs.Option.{option_map}
use Rattle.manifest_form.specs.declared.fault.Fault.{Fault}
use Rattle.manifest_form.specs.declared.root.RootEnd.{RootEnd}
use Rattle.manifest_form.specs.Takes.{IsRoot, Closes}

abbrev pub file_named : Option RootEnd → Option ℕ
file_named name = option_map (λ (n : RootEnd). n.file) name

-- the gate at that place is closed, and what stands before it names the file
abbrev pub NamesAt : List ℕ → Result (Option RootEnd) Fault → Type 0
NamesAt bytes (Ok (Some name)) = Closes (IsRoot name.file) name.at bytes
NamesAt bytes (Ok None) = Unit {0}
NamesAt bytes (Err e) = Unit {0}
