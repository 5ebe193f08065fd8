use Rattle.std.proofs.Common.{sym, subst, ℕ, Bool, false, arith}
use Rattle.region_table.specs.Counting.{applied_in}
use Rattle.region_table.specs.Table.{IsTableAt}
use Rattle.region_table.proofs.Agreeing.{none_below, all_below, none_past}
use Rattle.region_table.proofs.agree.applied_anew.Goals as goal

pub loop-position-init : goal.loop-position-init
loop-position-init c =
    let log = c.args.logs.now in
    subst (λ (B : ℕ → Bool). IsTableAt log B c.empty-table.result) (none_below (applied_in log c.args.regions.now.entries)) (subst (IsTableAt log (λ _. false)) (sym c.empty-table.ensures) (c.empty_tables_agree.ensures log))

pub returns-clause-some : goal.returns-clause-some
returns-clause-some c =
    let log = c.args.logs.now in
    let A = applied_in log c.args.regions.now.entries in
    let ends = c.loop-position-test.false in
    let len = c.len-position-end.ensures in
    subst (λ (B : ℕ → Bool). IsTableAt log B c.loop-position.table) (all_below A c.loop-position.position (λ q le. none_past log c.args.regions.now.entries q (omega (arith, le, ends, len)))) c.loop-position.invariant
