use Rattle.std.proofs.Common.{◌≡◌, ℕ, ◌+◌, ◌<◌, ◌∷◌, length, drop, nat_eq, Some, None, sym, subst, refl, arith}
use Rattle.std.specs.Cmp.Lexicographic.{pointwise}
use Rattle.column_codec.specs.Lists.{given, mode_of}
use Rattle.column_codec.proofs.ValueSteps.{settled, begins, item_got, mode_null, mode_same, mode_differs, mode_done}
use Rattle.column_codec.proofs.texts.text_mode_behind.Goals.{in-None, in-Some+else-ne}
use Rattle.column_codec.proofs.texts.text_mode_behind.Goals as goal

pub loop-i-init : goal.loop-i-init
loop-i-init c = begins (pointwise nat_eq) c.args.text.now (given (drop c.args.from c.args.texts.now))

pub returns-then-ne : goal.returns-then-ne
returns-then-ne c =
    let texts = c.args.texts.now in
    let other = c.in-Some.other.now in
    let lt : c.loop-i.i < length texts = omega (arith, c.loop-i-test.true, c.len-i-end.ensures) in
    mode_differs (pointwise nat_eq) texts c.args.text.now other c.loop-i.i c.loop-i.mode (mode_of (pointwise nat_eq) (c.args.text.now ∷ given (drop c.args.from texts))) (Some other) lt (item_got texts c.loop-i.i (Some other) lt c.in-Some.ensures) refl c.if-ne.ensures c.loop-i.invariant

pub loop-i-preserved : goal.loop-i-preserved
loop-i-preserved c =
    let same = pointwise nat_eq in
    let texts = c.args.texts.now in
    let text = c.args.text.now in
    let i = c.loop-i.i in
    let total = mode_of same (text ∷ given (drop c.args.from texts)) in
    let lt : i < length texts = omega (arith, c.loop-i-test.true, c.len-i-end.ensures) in
    let Kept : ℕ → Type 0 = λ mode. settled same text mode (given (drop (i + 1) texts)) ≡ total in
    elim c.match-at.branch [
      | in-None w ↦ subst Kept (sym w.mode-is) (mode_null same texts text i c.loop-i.mode total None lt (item_got texts i None lt w.in-None.ensures) refl c.loop-i.invariant)
      | in-Some+else-ne w ↦ subst Kept (sym w.mode-is) (mode_same same texts text w.in-Some.other.now i c.loop-i.mode total (Some w.in-Some.other.now) lt (item_got texts i (Some w.in-Some.other.now) lt w.in-Some.ensures) refl w.if-ne.ensures c.loop-i.invariant)
    ]

pub returns : goal.returns
returns c = mode_done (pointwise nat_eq) c.args.texts.now c.args.text.now c.loop-i.i c.loop-i.mode (mode_of (pointwise nat_eq) (c.args.text.now ∷ given (drop c.args.from c.args.texts.now))) (omega (arith, c.loop-i-test.false, c.len-i-end.ensures)) c.loop-i.invariant
