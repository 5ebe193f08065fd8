use Rattle.std.proofs.Common.{rules, ◌≡◌, ◌<◌, length, sym, subst}
use Rattle.std.specs.BTreeMap.{get}
use Rattle.std.specs.Ordering.{nat_cmp}
use Rattle.std.specs.Prelude.{get_or, ◌∷◌, []}
use Rattle.script_rounds.specs.Building.{HasMore}
use Rattle.script_rounds.proofs.Gathered.{read_added}
use Rattle.script_rounds.proofs.build.add_reads.Goals as goal

pub loop-i-preserved : goal.loop-i-preserved
loop-i-preserved c =
    let lt : c.loop-i.i < length c.args.reads.now = search rules in
    let here : get_or c.args.reads.now c.loop-i.i c.index-reads-i.result ≡ c.index-reads-i.result = search rules in
    read_added c.args.end c.loop-i.i c.args.reads.now c.index-reads-i.result (get nat_cmp c.args.rounds.now) (get nat_cmp c.loop-i.rounds) (get nat_cmp c.add_read.new.rounds) lt here c.loop-i.invariant
    (subst (λ b. HasMore b [] (c.loop-i.i ∷ []) (get nat_cmp c.loop-i.rounds) (get nat_cmp c.add_read.new.rounds)) c.bound_of-bound.ensures c.in_ok-add_read.ensures)
