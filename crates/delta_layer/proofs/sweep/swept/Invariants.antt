use Rattle.std.proofs.Common.{◌≡◌, ◌≤ℤ◌, ◌||◌, ℤ, length}
use Rattle.delta_layer.specs.Overlay.{any_holds, reached, AreByLow}
use Rattle.delta_layer.proofs.sweep.swept.Given as goal

abbrev pub invariant-loop-first : goal.invariant-loop-first
invariant-loop-first l = record {
  order : AreByLow l.rest;
  above : (h : ℤ) → l.version.handle ≤ℤ h → (reached l.end h || any_holds l.rest h) ≡ (reached l.fn.reach h || any_holds l.ranges h);
}

abbrev pub decreases-loop-first : goal.decreases-loop-first
decreases-loop-first l = length l.rest
