use Rattle.std.proofs.Common.{◌≡◌, ℕ, ◌+◌, ◌∷◌, drop, sym, subst}
use Rattle.column_codec.specs.Lists.{given, mode_of}
use Rattle.column_codec.proofs.ValueSteps.{settled, begins, mode_null, mode_same, mode_differs, mode_done}
use Rattle.column_codec.proofs.values.mode_behind.Goals.{in-None, in-Some+else-ne}
use Rattle.column_codec.proofs.values.mode_behind.Goals as goal

pub loop-value-init : goal.loop-value-init
loop-value-init g c = begins g.T.PartialEq.eq c.args.x (given c.args.values.now)

pub returns-then-ne : goal.returns-then-ne
returns-then-ne g c = mode_differs g.T.PartialEq.eq c.args.values.now c.args.x c.in-Some.y c.loop-value.value-index c.loop-value.mode (mode_of g.T.PartialEq.eq (c.args.x ∷ given c.args.values.now)) c.value-item.result c.loop-value-test.true c.value-item.is c.in-Some.is c.if-ne.ensures c.loop-value.invariant

pub loop-value-preserved : goal.loop-value-preserved
loop-value-preserved g c =
    let same = g.T.PartialEq.eq in
    let values = c.args.values.now in
    let x = c.args.x in
    let i = c.loop-value.value-index in
    let total = mode_of same (x ∷ given values) in
    let Kept : ℕ → Type 0 = λ mode. settled same x mode (given (drop (i + 1) values)) ≡ total in
    elim c.match-value.branch [
      | in-None w ↦ subst Kept (sym w.mode-is) (mode_null same values x i c.loop-value.mode total c.value-item.result c.loop-value-test.true c.value-item.is w.in-None.is c.loop-value.invariant)
      | in-Some+else-ne w ↦ subst Kept (sym w.mode-is) (mode_same same values x w.in-Some.y i c.loop-value.mode total c.value-item.result c.loop-value-test.true c.value-item.is w.in-Some.is w.if-ne.ensures c.loop-value.invariant)
    ]

pub returns : goal.returns
returns g c = mode_done g.T.PartialEq.eq c.args.values.now c.args.x c.loop-value.value-index c.loop-value.mode (mode_of g.T.PartialEq.eq (c.args.x ∷ given c.args.values.now)) c.loop-value-test.false c.loop-value.invariant
