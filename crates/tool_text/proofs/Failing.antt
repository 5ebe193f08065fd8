-- Answers of readers that fail.
use Rattle.std.proofs.Common.{◌≡◌, ℕ, List, Result, Err, ap, sym, ◌∙◌}
use Rattle.tool_text.specs.Reading.{below}
use Rattle.tool_text.specs.Misfits.{Fails, IsAt, IsInside}
use Rattle.tool_text.specs.declared.misfit.Misfit.{Misfit}
use Rattle.tool_text.specs.declared.misfit.Misfit.TheVariants.{At, Memory}

pub at_fails : {A : Type 0} (path : List ℕ) (misfit : Misfit) (reading : Result A (List ℕ)) → reading ≡ Err path → IsAt path misfit → Fails misfit reading
at_fails path Memory reading is at = tt {0}
at_fails path (At found) reading is at = is ∙ ap Err (sym at)

pub inside_fails : {A : Type 0} (name : List ℕ) (misfit around : Misfit) (reading : Result A (List ℕ)) → Fails misfit reading → IsInside name misfit around → Fails around (below name reading)
inside_fails name Memory Memory reading fails inside = tt {0}
inside_fails name Memory (At at) reading fails inside = absurd inside
inside_fails name (At path) Memory reading fails inside = tt {0}
inside_fails name (At path) (At at) reading fails inside = ap (below name) fails ∙ ap Err (sym inside)

pub ruleset failing = (at_fails, inside_fails)
