use Rattle.std.proofs.Common.{◌≡◌, ◌+◌, ◌<◌, ◌++◌, ◌∷◌, List, ℕ, length, drop, Some, None, sym, ap, ◌∙◌, refl, subst, arith}
use Rattle.std.proofs.lemmas.List.{append-nil}
use Rattle.flash_put.specs.Appending.{Appends}
use Rattle.column_codec.specs.Lists.{given}
use Rattle.column_codec.specs.Spelling as spelling
use Rattle.column_codec.proofs.ValueSteps.{item_got, value_first, null_passed}
use Rattle.column_codec.proofs.WriteSteps.{first_shown, none_shown, none_given}
use Rattle.column_codec.proofs.write.put_text_values.Goals as goal

pub loop-i-init : goal.loop-i-init
loop-i-init c = record { kept = refl; left = refl }

pub returns-in-Some : goal.returns-in-Some
returns-in-Some c =
    let texts = c.args.texts.now in
    let i = c.loop-i.i in
    let text = c.in-Some.text.now in
    let old = c.args.into.now.items in
    let lt : i < length texts = omega (arith, c.loop-i-test.true, c.len-i-end.ensures) in
    let first : given texts ≡ text ∷ given (drop (i + 1) texts) = sym c.loop-i.invariant.left ∙ value_first texts i (Some text) text lt (item_got texts i (Some text) lt c.in-Some.ensures) refl in
    let written = subst (λ (xs : List ℕ). Appends c.put_text.result xs (spelling.text (tt {0}) text) c.put_text.new.into.items) c.loop-i.invariant.kept c.put_text.ensures in
    subst (λ (xs : List ℕ). Appends c.put_text.result old xs c.put_text.new.into.items) (sym (first_shown spelling.text (λ _. tt {0}) (tt {0}) c.args.mode text (given (drop (i + 1) texts)) (given texts) c.if-mode-eq0.false first)) written

pub loop-i-preserved : goal.loop-i-preserved
loop-i-preserved c =
    let texts = c.args.texts.now in
    let i = c.loop-i.i in
    let lt : i < length texts = omega (arith, c.loop-i-test.true, c.len-i-end.ensures) in
    record {
      kept = c.loop-i.invariant.kept;
      left = sym (null_passed texts i None lt (item_got texts i None lt c.in-None.ensures) refl) ∙ c.loop-i.invariant.left;
    }

pub returns : goal.returns
returns c =
    let texts = c.args.texts.now in
    let old = c.args.into.now.items in
    let none = sym c.loop-i.invariant.left ∙ none_given texts c.loop-i.i (omega (arith, c.loop-i-test.false, c.len-i-end.ensures)) in
    c.loop-i.invariant.kept ∙ sym (append-nil old) ∙ ap (λ (xs : List ℕ). old ++ xs) (sym (none_shown spelling.text (λ _. tt {0}) (tt {0}) c.args.mode (given texts) c.if-mode-eq0.false none))
