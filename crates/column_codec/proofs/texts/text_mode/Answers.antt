use Rattle.std.proofs.Common.{◌<◌, length, nat_eq, Some, None, sym, ap, ◌∙◌, refl, arith}
use Rattle.std.specs.Cmp.Lexicographic.{pointwise}
use Rattle.column_codec.specs.Lists.{mode_of}
use Rattle.column_codec.proofs.ValueSteps.{item_got, value_first, null_passed}
use Rattle.column_codec.proofs.texts.text_mode.Goals as goal

pub returns-in-Some : goal.returns-in-Some
returns-in-Some c =
    let texts = c.args.texts.now in
    let i = c.loop-i.i in
    let text = c.in-Some.text.now in
    let lt : i < length texts = omega (arith, c.loop-i-test.true, c.len-i-end.ensures) in
    c.text_mode_behind.ensures ∙ ap (mode_of (pointwise nat_eq)) (sym (value_first texts i (Some text) text lt (item_got texts i (Some text) lt c.in-Some.ensures) refl)) ∙ c.loop-i.invariant

pub loop-i-preserved : goal.loop-i-preserved
loop-i-preserved c =
    let texts = c.args.texts.now in
    let i = c.loop-i.i in
    let lt : i < length texts = omega (arith, c.loop-i-test.true, c.len-i-end.ensures) in
    ap (mode_of (pointwise nat_eq)) (sym (null_passed texts i None lt (item_got texts i None lt c.in-None.ensures) refl)) ∙ c.loop-i.invariant
