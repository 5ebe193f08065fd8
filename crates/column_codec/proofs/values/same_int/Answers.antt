use Rattle.std.proofs.Common.{pos, sym, ap, ◌∙◌, subst, arith, SFits, w64}
use Rattle.std.proofs.lemmas.Int.{to_z-of_z}
use Rattle.column_codec.specs.Lists.{repeated}
use Rattle.column_codec.specs.Nulls.{nulls_from}
use Rattle.column_codec.specs.Numbers.{int_at, AllFit}
use Rattle.column_codec.proofs.ValueSteps.{all_null_listed, repeated_fit, int_fits}
use Rattle.column_codec.proofs.values.same_int.Goals as goal

pub returns-then-all_null-clause-exact : goal.returns-then-all_null-clause-exact
returns-then-all_null-clause-exact c = all_null_listed (int_at c.args.end) 0 c.args.bytes.now (nulls_from c.args.bitmap.now 0 c.args.count) _ c.in_ok-list.list.items (sym c.all_null.ensures ∙ c.if-all_null.true) c.in_ok-list.ensures

pub returns-then-all_null-clause-fit : goal.returns-then-all_null-clause-fit
returns-then-all_null-clause-fit c = subst AllFit (sym c.in_ok-list.ensures) (repeated_fit (pos 0) (nulls_from c.args.bitmap.now 0 c.args.count) (record { sfits = omega arith }))

pub returns-clause-fit : goal.returns-clause-fit
returns-clause-fit c =
    let n = c.in_ok-n.n in
    let nulls = nulls_from c.args.bitmap.now 0 c.args.count in
    let fits : SFits w64 n = int_fits c.args.end 0 c.args.bytes.now n c.in_ok-n.rest.now (sym c.in_ok-n.ensures) in
    subst AllFit (sym (c.in_ok-list-2.ensures ∙ ap (λ z. repeated z nulls) (to_z-of_z w64 n fits))) (repeated_fit n nulls fits)
