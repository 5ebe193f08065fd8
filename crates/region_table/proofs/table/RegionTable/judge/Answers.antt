use Rattle.std.proofs.Common.{◌≡◌, ◌≤◌, ap, ℕ, false, cond, Some, nat_lt, arith, rules}
use Rattle.flash_types.specs.declared.refusal.Refusal.TheVariants as refusal
use Rattle.committed_log.specs.Replies.{refused, refused_regions}
use Rattle.region_table.proofs.Judged.{judged}
use Rattle.region_table.proofs.table.RegionTable.judge.Goals as goal

not_below : (a b : ℕ) → b ≤ a → nat_lt a b ≡ false
not_below a b le = grind arith

pub returns : goal.returns
returns c = λ A is.
    let same = judged c.args.logs.now c.told_lawful.ensures A c.args.self.now is c.args.ask.now.ts c.args.mark c.args.ask.now.regions in
    let low : nat_lt c.args.ask.now.ts c.args.safe_point ≡ false = not_below _ _ (omega arith) in
    let last : refused c.args.logs.now c.args.ask.now A c.args.safe_point c.args.mark ≡ refused_regions c.args.logs.now c.args.ask.now.ts c.args.ask.now.regions A c.args.mark
    = ap (λ b. cond b (Some (refusal.BelowSafePoint c.args.safe_point)) (refused_regions c.args.logs.now c.args.ask.now.ts c.args.ask.now.regions A c.args.mark)) low in
    first_of (cc, search rules)
