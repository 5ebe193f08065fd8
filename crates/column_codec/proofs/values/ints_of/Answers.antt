use Rattle.std.proofs.Common.{◌≡◌, ℕ, ℤ, ◌+◌, ◌-◌, ◌++◌, ◌∷◌, [], List, Option, Some, None, sym, ap, ◌∙◌, subst}
use Rattle.std.specs.Int.{w64, cast_signed, cast_unsigned}
use Rattle.std.proofs.lemmas.Result.{err_from_is_err_and}
use Rattle.column_codec.specs.Numbers.{int_at, AllFit}
use Rattle.flash_list.proofs.Each.{with_front}
use Rattle.column_codec.specs.Nulls.{nulls_from}
use Rattle.column_codec.specs.Lists.{values_at}
use Rattle.column_codec.proofs.ValueSteps.{starts, null_next, value_next, fails_here, is_done, int_read, int_fails, int_word, replaced, fit_more, word_fits}
use Rattle.column_codec.proofs.values.ints_of.Goals.{then-is_null+in-Ok, else-is_null+in_ok-n+in-Ok-push}
use Rattle.column_codec.proofs.values.ints_of.Goals as goal

pub loop-i-init : goal.loop-i-init
loop-i-init c = record {
  read = rw c.in_ok-list.ensures.items (starts (int_at c.args.end) (cast_unsigned w64) c.args.bitmap.now c.args.count 0 c.args.bytes.now);
  fit = rw c.in_ok-list.ensures.items (tt {0});
}

pub returns-in_err-n-clause-exact : goal.returns-in_err-n-clause-exact
returns-in_err-n-clause-exact c =
    let p = err_from_is_err_and c.from_residual-in_err-n.result c.from_residual-in_err-n.ensures.1 in
    let total = values_at (int_at c.args.end) (cast_unsigned w64) (nulls_from c.args.bitmap.now 0 c.args.count) 0 c.args.bytes.now in
    rw (p.1, p.2) (fails_here (int_at c.args.end) (cast_unsigned w64) c.loop-i.list.items c.args.bitmap.now c.args.count c.loop-i.i c.loop-i.before c.loop-i.rest.now c.in_err-n.field-0.0 total c.loop-i-test.true (sym c.is_null.ensures ∙ c.if-is_null.false) (int_fails c.args.end c.loop-i.before c.loop-i.rest.now c.in_err-n.field-0.0 (sym c.in_err-n.ensures)) c.loop-i.invariant.read)

pub loop-i-preserved : goal.loop-i-preserved
loop-i-preserved c =
    let total = values_at (int_at c.args.end) (cast_unsigned w64) (nulls_from c.args.bitmap.now 0 c.args.count) 0 c.args.bytes.now in
    record {
      read = elim c.if-is_null.branch [
        | then-is_null+in-Ok w ↦ rw (w.list-is, w.before-is, w.rest-is, w.in-Ok.ensures.items) (null_next (int_at c.args.end) (cast_unsigned w64) c.loop-i.list.items c.args.bitmap.now c.args.count c.loop-i.i c.loop-i.before c.loop-i.rest.now total c.loop-i-test.true (sym c.is_null.ensures ∙ w.if-is_null.true) c.loop-i.invariant.read)
        | else-is_null+in_ok-n+in-Ok-push w ↦
            let n = w.in_ok-n.n in
            let after = w.in_ok-n.behind.now in
            let read = sym w.in_ok-n.ensures in
            let word = int_word c.args.end c.loop-i.before c.loop-i.rest.now n after read in
            let step = value_next (int_at c.args.end) (cast_unsigned w64) c.loop-i.list.items c.args.bitmap.now c.args.count c.loop-i.i c.loop-i.before c.loop-i.rest.now (cast_signed w64 n) after total c.loop-i-test.true (sym c.is_null.ensures ∙ w.if-is_null.false) (int_read c.args.end c.loop-i.before c.loop-i.rest.now n after read) c.loop-i.invariant.read in
            let Kept : List (Option ℤ) → ℕ → List ℕ → Type 0 = λ items before rest. with_front items (values_at (int_at c.args.end) (cast_unsigned w64) (nulls_from c.args.bitmap.now (c.loop-i.i + 1) (c.args.count - (c.loop-i.i + 1))) before rest) ≡ total in
            let items : c.if-is_null.list.items ≡ c.loop-i.list.items ++ Some (cast_signed w64 n) ∷ [] = ap (λ list. list.items) w.list-is ∙ w.in-Ok-push.ensures.items ∙ ap (λ x. c.loop-i.list.items ++ Some (cast_signed w64 (cast_unsigned w64 x)) ∷ []) w.cast_signed.ensures ∙ ap (λ k. c.loop-i.list.items ++ Some (cast_signed w64 k) ∷ []) word in
            replaced Kept c.if-is_null.list.items (c.loop-i.list.items ++ Some (cast_signed w64 n) ∷ []) c.if-is_null.before (cast_unsigned w64 (cast_signed w64 n)) c.if-is_null.rest.now after items (w.before-is ∙ sym word) (ap (λ r. r.now) w.rest-is) step
      ];
      fit = elim c.if-is_null.branch [
        | then-is_null+in-Ok w ↦ subst AllFit (sym (ap (λ list. list.items) w.list-is ∙ w.in-Ok.ensures.items)) (fit_more c.loop-i.list.items None c.loop-i.invariant.fit (tt {0}))
        | else-is_null+in_ok-n+in-Ok-push w ↦
            let n = w.in_ok-n.n in
            let read = sym w.in_ok-n.ensures in
            let word = int_word c.args.end c.loop-i.before c.loop-i.rest.now n w.in_ok-n.behind.now read in
            let items : c.if-is_null.list.items ≡ c.loop-i.list.items ++ Some (cast_signed w64 n) ∷ [] = ap (λ list. list.items) w.list-is ∙ w.in-Ok-push.ensures.items ∙ ap (λ x. c.loop-i.list.items ++ Some (cast_signed w64 (cast_unsigned w64 x)) ∷ []) w.cast_signed.ensures ∙ ap (λ k. c.loop-i.list.items ++ Some (cast_signed w64 k) ∷ []) word in
            subst AllFit (sym items) (fit_more c.loop-i.list.items (Some (cast_signed w64 n)) c.loop-i.invariant.fit (word_fits c.args.end c.loop-i.before c.loop-i.rest.now n w.in_ok-n.behind.now read))
      ];
    }

pub returns-clause-exact : goal.returns-clause-exact
returns-clause-exact c = is_done (int_at c.args.end) (cast_unsigned w64) c.loop-i.list.items c.args.bitmap.now c.args.count c.loop-i.i c.loop-i.before c.loop-i.rest.now (values_at (int_at c.args.end) (cast_unsigned w64) (nulls_from c.args.bitmap.now 0 c.args.count) 0 c.args.bytes.now) c.loop-i-test.false c.loop-i.invariant.read
