-- The first gate of a root.
use Rattle.std.specs.Prelude.{List, ℕ, []}
use Rattle.manifest_form.specs.Takes.{ClosedAt}
use Rattle.manifest.specs.Made.{LacksGate}
use Rattle.manifest.specs.declared.ready.Gate.{Gate}
use Rattle.manifest.specs.declared.ready.Gate.TheVariants.{Missing, Closed, Open}

abbrev pub GateIs : List ℕ → Gate → Type 0
GateIs root Missing = LacksGate root
GateIs root Closed = ClosedAt [] root
GateIs root Open = Unit {0}
