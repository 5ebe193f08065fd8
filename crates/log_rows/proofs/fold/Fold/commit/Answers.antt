use Rattle.std.proofs.Common.{SFits, w64, rules, ap, cond, Some, ◌∙◌}
use Rattle.std.specs.Ordering.{int_cmp}
use Rattle.std.specs.BTreeMap.{get, is_at}
use Rattle.log_rows.specs.Folds.{next_known}
use Rattle.std.proofs.lemmas.Int.{to_z-of_z}
use Rattle.log_rows.proofs.Knowing.{holds_repeated, holds_commit}
use Rattle.log_rows.proofs.fold.Fold.commit.Goals as goal

pub returns-then-repeats-clause-holds : goal.returns-then-repeats-clause-holds
returns-then-repeats-clause-holds c = λ p s holds.
    let fits : SFits w64 c.args.handle = search rules in
    let got = simp to_z-of_z at c.get-known.ensures.value in
    holds_repeated c.args.self.now.ts p s c.args.self.now.values c.args.self.now.handles c.args.handle c.args.one.ts c.args.one.start c.args.one.gone c.args.short holds (cc (c.repeats.ensures, got, c.if-repeats.true))

pub returns-in-Ok-clause-holds : goal.returns-in-Ok-clause-holds
returns-in-Ok-clause-holds c = λ p s holds.
    let fits : SFits w64 c.args.handle = search rules in
    let ts = c.args.self.now.ts in
    let h = c.args.handle in
    let one = c.args.one in
    let old = c.args.self.now.handles in
    let got = simp to_z-of_z at c.get-known.ensures.value in
    let update = simp to_z-of_z at c.in-Ok.ensures.updates.0 in
    let value_is = simp to_z-of_z at c.in_ok-value.ensures in
    let next_is = c.in_ok-next.ensures ∙ ap (λ k. next_known ts k one.ts one.start c.in_ok-value.value) got ∙ ap (next_known ts (get int_cmp old h) one.ts one.start) value_is in
    holds_commit ts p s c.args.self.now.values old c.insert.new.self h one.ts one.start one.gone c.args.short holds (cc (c.repeats.ensures, got, c.if-repeats.false))
    (λ q. update q ∙ ap (λ n. cond (is_at (int_cmp h) q) (Some n) (get int_cmp old q)) next_is)
