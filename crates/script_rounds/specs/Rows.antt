-- Events by which the definition of bounds was worked out by hand.
use Rattle.std.specs.Prelude.{List, [], ◌∷◌}
use Rattle.tool_text.specs.declared.script.Event.{Event}
use Rattle.tool_text.specs.declared.script.Action.TheVariants.{Flush, Compact, Checkpoint}

abbrev pub four_events : List Event
four_events = record { at = 4; action = Flush } ∷ record { at = 2; action = Compact } ∷ record { at = 4; action = Checkpoint } ∷ record { at = 9; action = Flush } ∷ []
