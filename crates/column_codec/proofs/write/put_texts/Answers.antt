use Rattle.std.proofs.Common.{◌+◌, ◌<◌, ◌++◌, List, ℕ, drop, length, Some, None, sym, ap, refl, arith, subst}
use Rattle.std.proofs.lemmas.Result.{err_from_is_err_and}
use Rattle.column_codec.specs.Lists.{given}
use Rattle.column_codec.specs.Spelling as spelling
use Rattle.column_codec.proofs.ValueSteps.{item_got}
use Rattle.column_codec.proofs.WriteSteps.{Written, starts, goes_on, left_is, fails, is_done, null_left, value_left, none_left}
use Rattle.column_codec.proofs.write.put_texts.Goals.{in-None, in-Some+in_ok-put_text-in-Some}
use Rattle.column_codec.proofs.write.put_texts.Goals as goal

pub loop-i-init : goal.loop-i-init
loop-i-init c = starts c.args.into.now.items (spelling.each spelling.text (λ _. tt {0}) (tt {0}) (given c.args.texts.now))

pub returns-in_err-put_text-in-Some : goal.returns-in_err-put_text-in-Some
returns-in_err-put_text-in-Some c =
    let p = err_from_is_err_and c.from_residual.result c.from_residual.ensures.1 in
    rw (p.1) (fails c.args.into.now.items c.loop-i.into.items (spelling.each spelling.text (λ _. tt {0}) (tt {0}) (given (drop c.loop-i.i c.args.texts.now))) (spelling.each spelling.text (λ _. tt {0}) (tt {0}) (given c.args.texts.now)) c.put_text.new.into.items c.loop-i.invariant c.in_err-put_text-in-Some.ensures)

pub loop-i-preserved : goal.loop-i-preserved
loop-i-preserved c =
    let next : List ℕ → Unit {0} = λ _. tt {0} in
    let texts = c.args.texts.now in
    let i = c.loop-i.i in
    let old = c.loop-i.into.items in
    let first = c.args.into.now.items in
    let left = spelling.each spelling.text next (tt {0}) (given (drop (i + 1) texts)) in
    let total = spelling.each spelling.text next (tt {0}) (given texts) in
    let lt : i < length texts = omega (arith, c.loop-i-test.true, c.len-i-end.ensures) in
    let Kept : List ℕ → Type 0 = λ into. Written first into left total in
    elim c.match-at.branch [
      | in-None w ↦
          let step = left_is first old _ left total (null_left spelling.text next (tt {0}) texts i None lt (item_got texts i None lt w.in-None.ensures) refl) c.loop-i.invariant in
          subst Kept (sym (ap (λ v. v.items) w.into-is)) step
      | in-Some+in_ok-put_text-in-Some w ↦
          let text = w.in-Some.text.now in
          let so_far = left_is first old _ (spelling.text (tt {0}) text ++ left) total (value_left spelling.text next (tt {0}) texts i (Some text) text lt (item_got texts i (Some text) lt w.in-Some.ensures) refl) c.loop-i.invariant in
          let step = goes_on first old (spelling.text (tt {0}) text) left total w.put_text.new.into.items so_far w.in_ok-put_text-in-Some.ensures in
          subst Kept (sym (ap (λ v. v.items) w.into-is)) step
    ]

pub returns : goal.returns
returns c =
    is_done c.args.into.now.items c.loop-i.into.items (spelling.each spelling.text (λ _. tt {0}) (tt {0}) (given (drop c.loop-i.i c.args.texts.now))) (spelling.each spelling.text (λ _. tt {0}) (tt {0}) (given c.args.texts.now)) (none_left spelling.text (λ _. tt {0}) (tt {0}) c.args.texts.now c.loop-i.i (omega (arith, c.loop-i-test.false, c.len-i-end.ensures))) c.loop-i.invariant
