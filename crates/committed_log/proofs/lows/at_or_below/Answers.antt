use Rattle.std.proofs.Common.{ℤ, to_z, of_z, sym, subst, w64, SFits, rules}
use Rattle.std.proofs.lemmas.Int.{to_z-of_z}
use Rattle.std.specs.BTreeMap.{get}
use Rattle.std.specs.Ordering.{int_cmp}
use Rattle.committed_log.specs.Lows.{IsLastBelow}
use Rattle.committed_log.proofs.Parts.{last_below}
use Rattle.committed_log.proofs.lows.at_or_below.Goals as goal

pub returns-in-Some-clause-some : goal.returns-in-Some-clause-some
returns-in-Some-clause-some c =
    let fits : SFits w64 c.in-Some.low.now = search rules in
    let handle_fits : SFits w64 c.args.handle = search rules in
    subst (λ (h : ℤ). IsLastBelow (get int_cmp c.args.lows.now) c.args.handle h c.in-Some.id.now) (sym (to_z-of_z w64 _ fits))
    (last_below c.args.lows.now (to_z w64 (of_z w64 c.args.handle)) c.args.handle (to_z-of_z w64 _ handle_fits) c.range.result (c.range.ensures.in_range tt) c.in-Some.low.now c.in-Some.id.now c.next_back.new.self c.in-Some.ensures.steps)
