use Rattle.std.proofs.Common.{◌≡◌, ℕ, ◌<◌, get_or}
use Rattle.manifest.proofs.reading.lists.Given as goal

abbrev pub invariant-loop-listed : goal.invariant-loop-listed
invariant-loop-listed l = (k : ℕ) → k < l.listed-index → get_or l.list k l.file ≡ l.file → ⊥
