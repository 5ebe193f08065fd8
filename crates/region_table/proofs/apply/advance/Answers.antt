use Rattle.std.proofs.Common.{◌≡◌, ◌∙◌, ap, ℕ, cond, Option, Some, None, Result, Ok, Err, OnOk, OnErr, nat_cmp}
use Rattle.std.specs.BTreeMap.{is_at}
use Rattle.std.specs.Cmp.{nat_cmp_total}
use Rattle.std.proofs.lemmas.Map.Lookups.{exact_unsigned}
use Rattle.region_state.proofs.Folds.{same_lists}
use Rattle.region_table.specs.Nexts.{plus, minus, nexts_after}
use Rattle.region_table.specs.Table.{next_in}
use Rattle.region_table.proofs.Points.{on_ok, on_err}
use Rattle.region_table.proofs.apply.advance.Goals as goal

pub returns-in-Ok-clause-nexts : goal.returns-in-Ok-clause-nexts
returns-in-Ok-clause-nexts c = on_ok c.change_added-done.result (λ gone q.
    gone q ∙ ap (λ o. cond (is_at (nat_cmp c.args.parsed.now.position) q) None o) (c.in-Ok.ensures.ok q)
    ∙ (λ i. minus (Some c.args.parsed.now.position) (plus (c.child_next-child.ensures i) (plus (c.own_next-own.ensures i) (next_in c.args.nexts.now.entries))) q))
    c.change_added-done.ensures.nexts

pub returns-in-Ok-clause-stay : goal.returns-in-Ok-clause-stay
returns-in-Ok-clause-stay c = on_err c.change_added-done.result (λ back.
    same_lists nat_cmp_total exact_unsigned c.change_added-done.new.nexts.entries c.args.nexts.now.entries c.len-after.ensures.ordered c.len-before.ensures.ordered (λ q. back q ∙ c.in-Ok.ensures.back q))
    c.change_added-done.ensures.back
