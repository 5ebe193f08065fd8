use Rattle.std.proofs.Common.{◌≡◌, ◌∙◌, ◌∷◌, ◌||◌, ◌≤ℤ◌, true, false, sym, ap, ap₂, subst, rules, SFits, w64, arith}
use Rattle.std.specs.Prelude.{int_lt}
use Rattle.std.proofs.lemmas.Int.{ints, to_z-of_z}
use Rattle.delta_layer.specs.Overlay.{any_holds, reached, AreByLow}
use Rattle.delta_layer.proofs.Sweeping.{sweep_on, sweep_here, by_low_rest}
use Rattle.delta_layer.proofs.sweep.swept.Goals as goal

pub returns-then-version-first-clause-here : goal.returns-then-version-first-clause-here
returns-then-version-first-clause-here c =
    let v = c.args.version.now in
    let v_fits : SFits w64 c.args.version.now.handle = search rules in
    let low_fits : SFits w64 c.in-Some.first.now.low = search rules in
    let is : c.loop-first.rest.now ≡ c.in-Some.first.now ∷ c.in-Some.others.now = c.in-Some.ensures.cases.0 in
    let above : int_lt c.args.version.now.handle c.in-Some.first.now.low ≡ true = sym (ap₂ int_lt (to_z-of_z w64 c.args.version.now.handle v_fits) (to_z-of_z w64 c.in-Some.first.now.low low_fits)) ∙ c.if-version-first.true in
    let here : c.args.version.now.handle ≤ℤ c.args.version.now.handle = omega (arith, ints) in
    sweep_here c.loop-first.rest.now c.in-Some.others.now c.in-Some.first.now c.loop-first.end v.handle (reached c.args.reach v.handle || any_holds c.args.ranges.now v.handle) is c.loop-first.invariant.order above (c.loop-first.invariant.above v.handle here)

pub loop-first-preserved : goal.loop-first-preserved
loop-first-preserved c =
    let v = c.args.version.now in
    let v_fits : SFits w64 c.args.version.now.handle = search rules in
    let low_fits : SFits w64 c.in-Some.first.now.low = search rules in
    let is : c.loop-first.rest.now ≡ c.in-Some.first.now ∷ c.in-Some.others.now = c.in-Some.ensures.cases.0 in
    let under : int_lt c.args.version.now.handle c.in-Some.first.now.low ≡ false = sym (ap₂ int_lt (to_z-of_z w64 c.args.version.now.handle v_fits) (to_z-of_z w64 c.in-Some.first.now.low low_fits)) ∙ c.if-version-first.false in
    record {
      order = by_low_rest c.in-Some.first.now c.in-Some.others.now (subst AreByLow is c.loop-first.invariant.order);
      above = λ h le.
          ap (λ e. reached e h || any_holds c.in-Some.others.now h) c.further-end.ensures
          ∙ sweep_on c.loop-first.rest.now c.in-Some.others.now c.in-Some.first.now c.loop-first.end v.handle h is under le
          ∙ c.loop-first.invariant.above h le;
    }
