use Rattle.std.proofs.Common.{take}
use Rattle.tool_text.specs.Replies.{cuts_text}
use Rattle.tool_text.proofs.Begins.{begins-then}
use Rattle.tool_text.proofs.reply.push_cuts.Goals as goal

pub returns-in-Err-clause-err : goal.returns-in-Err-clause-err
returns-in-Err-clause-err c =
    begins-then c.args.into.now.items c.loop-cut.into.items c.push_cut.new.into.items (cuts_text (take c.loop-cut.cut-index c.args.cuts.now)) c.loop-cut.invariant c.in-Err.ensures.err
