use Rattle.std.proofs.Common.{◌≡◌, ◌+◌, ◌++◌, ◌∷◌, List, ℕ, drop, Some, None, sym, ap, ◌∙◌, refl, subst, SFits}
use Rattle.std.specs.Int.{w64, cast_unsigned}
use Rattle.std.proofs.lemmas.Int.{to_z-of_z}
use Rattle.std.proofs.lemmas.List.{append-nil}
use Rattle.flash_put.specs.Appending.{Appends}
use Rattle.column_codec.specs.Lists.{given}
use Rattle.column_codec.specs.Spelling as spelling
use Rattle.column_codec.proofs.ValueSteps.{fit_at, value_first, null_passed}
use Rattle.column_codec.proofs.WriteSteps.{item_any, int_is, first_shown, none_shown, none_given}
use Rattle.column_codec.proofs.write.put_int_values.Goals as goal

pub loop-value-init : goal.loop-value-init
loop-value-init c = record { kept = refl; left = refl }

pub returns-in-Some : goal.returns-in-Some
returns-in-Some c =
    let values = c.args.values.now in
    let i = c.loop-value.value-index in
    let n = c.in-Some.n in
    let old = c.args.into.now.items in
    let first : given values ≡ n ∷ given (drop (i + 1) values) = sym c.loop-value.invariant.left ∙ value_first values i (Some n) n c.loop-value-test.true (item_any values i _ (Some n) c.loop-value-test.true c.in-Some.is) refl in
    let fits : SFits w64 n = fit_at values i n c.requires c.loop-value-test.true (item_any values i _ (Some n) c.loop-value-test.true c.in-Some.is) in
    let word : c.cast_unsigned.result ≡ cast_unsigned w64 n = c.cast_unsigned.ensures ∙ ap (cast_unsigned w64) (to_z-of_z w64 n fits) in
    let written = subst (λ (xs : List ℕ). Appends c.put_uint.result old xs c.put_uint.new.into.items) (ap (spelling.uint 0) word ∙ sym (int_is 0 n)) (subst (λ (xs : List ℕ). Appends c.put_uint.result xs (spelling.uint 0 c.cast_unsigned.result) c.put_uint.new.into.items) c.loop-value.invariant.kept c.put_uint.ensures) in
    subst (λ (xs : List ℕ). Appends c.put_uint.result old xs c.put_uint.new.into.items) (sym (first_shown spelling.int (cast_unsigned w64) 0 c.args.mode n (given (drop (i + 1) values)) (given values) c.if-mode-eq0.false first)) written

pub loop-value-preserved : goal.loop-value-preserved
loop-value-preserved c =
    let values = c.args.values.now in
    let i = c.loop-value.value-index in
    record {
      kept = c.loop-value.invariant.kept;
      left = sym (null_passed values i None c.loop-value-test.true (item_any values i _ None c.loop-value-test.true c.in-None.is) refl) ∙ c.loop-value.invariant.left;
    }

pub returns : goal.returns
returns c =
    let values = c.args.values.now in
    let old = c.args.into.now.items in
    let none = sym c.loop-value.invariant.left ∙ none_given values c.loop-value.value-index c.loop-value-test.false in
    c.loop-value.invariant.kept ∙ sym (append-nil old) ∙ ap (λ (xs : List ℕ). old ++ xs) (sym (none_shown spelling.int (cast_unsigned w64) 0 c.args.mode (given values) c.if-mode-eq0.false none))
