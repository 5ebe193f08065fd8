use Rattle.std.proofs.Common.{◌∙◌, ◌++◌, sym}
use Rattle.std.specs.Option.{option_to_list}
use Rattle.raft_apply.specs.Entries.{change_at}
use Rattle.raft_apply.proofs.Placing.{one_more}
use Rattle.raft_apply.proofs.ops.changes.Goals as goal

pub loop-k-preserved : goal.loop-k-preserved
loop-k-preserved c =
    let f = change_at c.args.logs.now c.args.position c.args.ops.now in
    c.in_ok-add_at.ensures ∙ (λ i. c.loop-k.invariant i ++ option_to_list (f c.loop-k.k)) ∙ sym (one_more f c.loop-k.k)
