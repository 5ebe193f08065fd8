use Rattle.std.proofs.Common.{◌≡◌, ◌++◌, take}
use Rattle.tool_text.specs.Replies.{cuts_text}
use Rattle.tool_text.proofs.reply.push_cuts.Given as goal

abbrev pub invariant-loop-cut : goal.invariant-loop-cut
invariant-loop-cut l = l.into.items ≡ l.fn.into.items ++ cuts_text (take l.cut-index l.cuts)
