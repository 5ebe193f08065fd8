use Rattle.std.proofs.Common.{◌≢◌, arith}
use Rattle.region_table.specs.Counting.{applied_in}
use Rattle.region_table.proofs.Counts.{counted_first, counted_still}
use Rattle.region_table.proofs.apply.count_one.Goals as goal
use Rattle.region_table.proofs.apply.count_one.Goals.{else-position-counted-via-then-position-counted+else-position-end, else-position-counted-via-else-position-counted}

pub returns-then-position-end : goal.returns-then-position-end
returns-then-position-end c = λ A counted free same.
    counted_first c.args.logs.now A c.args.counted counted c.args.position free c.requires.within (applied_in c.args.logs.now c.args.regions.now.entries) same c.if-position-counted.true c.next_out.result c.next_out.ensures

pub returns : goal.returns
returns c = λ A counted free same. counted_still c.args.logs.now A c.args.counted counted c.args.position free c.requires.within (elim c.else-position-counted.branch as (λ b. c.args.position ≢ c.args.counted.first) [
  | else-position-counted-via-then-position-counted+else-position-end w ↦ λ e. (let h = w.if-position-end.false in let i = c.requires.within in let j = c.len-end.ensures in omega (arith, h, i, j))
  | else-position-counted-via-else-position-counted w ↦ λ e. (let h = w.if-position-counted.false in absurd (h e))
])
