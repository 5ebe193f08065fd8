use Rattle.std.proofs.Common.{◌≡◌, ◌∙◌, ap, ℕ, Option, nat_cmp}
use Rattle.std.specs.Cmp.{nat_cmp_total}
use Rattle.std.proofs.lemmas.Map.Lookups.{exact_unsigned}
use Rattle.region_state.proofs.Folds.{same_lists}
use Rattle.region_table.specs.Nexts.{plus, minus}
use Rattle.region_table.specs.Table.{next_in}
use Rattle.region_table.specs.declared.positions.Added.{Added}
use Rattle.region_table.proofs.Points.{plus_at, minus_at, on_ok, both_err, both_ok}
use Rattle.region_table.proofs.positions.add_both.Goals as goal

pub returns-in-Ok-clause-ok : goal.returns-in-Ok-clause-ok
returns-in-Ok-clause-ok c = on_ok c.add_child.result (λ more q. more q ∙ plus_at c.args.child (next_in c.add.new.positions.entries) (plus c.args.own (next_in c.args.positions.now.entries)) q (c.in-Ok.ensures.ok q)) c.add_child.ensures.ok

pub returns-in-Ok-clause-back : goal.returns-in-Ok-clause-back
returns-in-Ok-clause-back c = both_ok c.add_child.result (λ new. new.own ≡ c.in-Ok.own) (λ new. (q : ℕ) → minus new.child (next_in c.add_child.new.positions.entries) q ≡ next_in c.add.new.positions.entries q) (λ new. (q : ℕ) → minus new.own (minus new.child (next_in c.add_child.new.positions.entries)) q ≡ next_in c.args.positions.now.entries q)
    (λ new own back q. ap (λ o. minus o (minus new.child (next_in c.add_child.new.positions.entries)) q) own ∙ minus_at c.in-Ok.own (minus new.child (next_in c.add_child.new.positions.entries)) (next_in c.add.new.positions.entries) q (back q) ∙ c.in-Ok.ensures.back q)
    c.add_child.ensures.own c.add_child.ensures.back

pub returns-in-Ok-clause-err : goal.returns-in-Ok-clause-err
returns-in-Ok-clause-err c = both_err c.add_child.result (λ gone ordered. same_lists nat_cmp_total exact_unsigned c.add_child.new.positions.entries c.args.positions.now.entries ordered c.len-before.ensures.ordered (λ q. gone q ∙ c.in-Ok.ensures.back q)) c.add_child.ensures.err c.add_child.ensures.ordered
