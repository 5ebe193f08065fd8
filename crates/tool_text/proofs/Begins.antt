-- Texts that begin with a text.
use Rattle.std.proofs.Common.{◌≡◌, ℕ, ◌≤◌, List, ◌++◌, length, take, sym, ap, ◌∙◌, arith, length-append}
use Rattle.std.proofs.lemmas.List.{take-take}
use Rattle.std.proofs.Math.Seq.{take-append_seam}
use Rattle.tool_text.specs.Texts.{Begins}

pub begins-append : (front more : List ℕ) → Begins front (front ++ more)
begins-append front more = take-append_seam front more

pub begins-then : (front middle text more : List ℕ) → middle ≡ front ++ more → Begins middle text → Begins front text
begins-then front middle text more is h =
    let short : length front ≤ length middle = omega (arith, ap length is, length-append front more) in
    let one : take (length front) (take (length middle) text) ≡ take (length front) text = grind (arith, take-take) in
    sym one ∙ ap (take (length front)) (h ∙ is) ∙ take-append_seam front more

pub ruleset begins = (begins-append, begins-then)
