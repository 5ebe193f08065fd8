use Rattle.std.proofs.Common.{◌≡◌, ◌+◌, ◌-◌, ◌++◌, List, Option, Some, None, cond, sym, ap, ◌∙◌, subst}
use Rattle.column_codec.specs.Nulls.{nulls_from}
use Rattle.column_codec.specs.Lists.{repeated}
use Rattle.column_codec.proofs.ValueSteps.{repeats}
use Rattle.column_codec.proofs.values.repeated.Goals.{then-is_null+in_ok-push, else-is_null+in_ok-push-2}
use Rattle.column_codec.proofs.values.repeated.Goals as goal

pub loop-i-preserved : goal.loop-i-preserved
loop-i-preserved g c =
    let x = c.args.value in
    let total = repeated x (nulls_from c.args.bitmap.now 0 c.args.count) in
    let Kept : List (Option _) → Type 0 = λ items. items ++ repeated x (nulls_from c.args.bitmap.now (c.loop-i.i + 1) (c.args.count - (c.loop-i.i + 1))) ≡ total in
    elim c.if-is_null.branch [
      | then-is_null+in_ok-push w ↦
          let is = ap (λ b. cond b None (Some x)) (sym w.if-is_null.true ∙ c.is_null.ensures) in
          subst Kept (sym (ap (λ list. list.items) w.list-is ∙ w.in_ok-push.ensures.items)) (repeats x c.loop-i.list.items c.args.bitmap.now c.args.count c.loop-i.i None total c.loop-i-test.true is c.loop-i.invariant)
      | else-is_null+in_ok-push-2 w ↦
          let is = ap (λ b. cond b None (Some x)) (sym w.if-is_null.false ∙ c.is_null.ensures) in
          subst Kept (sym (ap (λ list. list.items) w.list-is ∙ w.in_ok-push-2.ensures.items)) (repeats x c.loop-i.list.items c.args.bitmap.now c.args.count c.loop-i.i (Some x) total c.loop-i-test.true is c.loop-i.invariant)
    ]
