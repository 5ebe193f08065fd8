use Rattle.std.proofs.Common.{◌≡◌, ◌+◌, ◌++◌, List, ℕ, drop, Some, None, sym, ap, ◌∙◌, refl, subst, SFits}
use Rattle.std.proofs.lemmas.Int.{to_z-of_z}
use Rattle.column_codec.proofs.ValueSteps.{fit_at}
use Rattle.std.specs.Int.{w64, cast_unsigned}
use Rattle.std.proofs.lemmas.Result.{err_from_is_err_and}
use Rattle.column_codec.specs.Lists.{given}
use Rattle.column_codec.specs.Spelling as spelling
use Rattle.column_codec.proofs.WriteSteps.{Written, starts, goes_on, left_is, fails, is_done, null_left, value_left, none_left, item_any, int_is}
use Rattle.column_codec.proofs.write.put_ints.Goals.{in-None, in-Some+in_ok-put_uint-in-Some}
use Rattle.column_codec.proofs.write.put_ints.Goals as goal

pub loop-value-init : goal.loop-value-init
loop-value-init c = starts c.args.into.now.items (spelling.each spelling.int (cast_unsigned w64) 0 (given c.args.values.now))

pub returns-in_err-put_uint-in-Some : goal.returns-in_err-put_uint-in-Some
returns-in_err-put_uint-in-Some c =
    let p = err_from_is_err_and c.from_residual.result c.from_residual.ensures.1 in
    rw (p.1) (fails c.args.into.now.items c.loop-value.into.items (spelling.each spelling.int (cast_unsigned w64) c.loop-value.before (given (drop c.loop-value.value-index c.args.values.now))) (spelling.each spelling.int (cast_unsigned w64) 0 (given c.args.values.now)) c.put_uint.new.into.items c.loop-value.invariant c.in_err-put_uint-in-Some.ensures)

pub loop-value-preserved : goal.loop-value-preserved
loop-value-preserved c =
    let values = c.args.values.now in
    let i = c.loop-value.value-index in
    let before = c.loop-value.before in
    let old = c.loop-value.into.items in
    let first = c.args.into.now.items in
    let left : ℕ → List ℕ = λ state. spelling.each spelling.int (cast_unsigned w64) state (given (drop (i + 1) values)) in
    let total = spelling.each spelling.int (cast_unsigned w64) 0 (given values) in
    let Kept : List ℕ → ℕ → Type 0 = λ into state. Written first into (left state) total in
    elim c.match-value.branch [
      | in-None w ↦
          let step = left_is first old _ (left before) total (null_left spelling.int (cast_unsigned w64) before values i None c.loop-value-test.true (item_any values i _ None c.loop-value-test.true w.in-None.is) refl) c.loop-value.invariant in
          subst (λ into. Kept into c.match-value.before) (sym (ap (λ v. v.items) w.into-is)) (subst (Kept old) (sym w.before-is) step)
      | in-Some+in_ok-put_uint-in-Some w ↦
          let n = w.in-Some.n in
          let fits : SFits w64 n = fit_at values i n c.requires c.loop-value-test.true (item_any values i _ (Some n) c.loop-value-test.true w.in-Some.is) in
          let word : w.cast_unsigned-n.result ≡ cast_unsigned w64 n = w.cast_unsigned-n.ensures ∙ ap (cast_unsigned w64) (to_z-of_z w64 n fits) in
          let so_far = left_is first old _ (spelling.int before n ++ left (cast_unsigned w64 n)) total (value_left spelling.int (cast_unsigned w64) before values i (Some n) n c.loop-value-test.true (item_any values i _ (Some n) c.loop-value-test.true w.in-Some.is) refl) c.loop-value.invariant in
          let step = goes_on first old (spelling.int before n) (left (cast_unsigned w64 n)) total w.put_uint.new.into.items so_far (w.in_ok-put_uint-in-Some.ensures ∙ ap (λ k. old ++ spelling.uint before k) word ∙ ap (λ xs. old ++ xs) (sym (int_is before n))) in
          subst (λ into. Kept into c.match-value.before) (sym (ap (λ v. v.items) w.into-is)) (subst (Kept w.put_uint.new.into.items) (sym (w.before-is ∙ word)) step)
    ]

pub returns : goal.returns
returns c =
    is_done c.args.into.now.items c.loop-value.into.items (spelling.each spelling.int (cast_unsigned w64) c.loop-value.before (given (drop c.loop-value.value-index c.args.values.now))) (spelling.each spelling.int (cast_unsigned w64) 0 (given c.args.values.now)) (none_left spelling.int (cast_unsigned w64) c.loop-value.before c.args.values.now c.loop-value.value-index c.loop-value-test.false) c.loop-value.invariant
