use Rattle.std.proofs.Common.{ℤ, Option, IsSome, sym, subst, w64, SFits, rules}
use Rattle.std.proofs.lemmas.Int.{to_z-of_z}
use Rattle.std.specs.BTreeMap.{get}
use Rattle.std.specs.Ordering.{int_cmp}
use Rattle.committed_log.specs.Lows.{IsPut}
use Rattle.committed_log.proofs.lows.put_back.Goals as goal

pub reset_low-requires : goal.reset_low-requires
reset_low-requires c =
    let fits : SFits w64 c.in-Some.low = search rules in
    subst (λ (h : ℤ). IsSome (get int_cmp c.args.lows.now h)) (sym (to_z-of_z w64 _ fits)) (subst (λ (o : Option ℤ). IsPut o (get int_cmp c.args.lows.now)) c.in-Some.is c.requires)
