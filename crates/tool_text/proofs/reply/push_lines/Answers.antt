use Rattle.std.proofs.Common.{take}
use Rattle.std.specs.List.{flat_map}
use Rattle.tool_text.specs.Texts.{line}
use Rattle.tool_text.proofs.Begins.{begins-append}
use Rattle.tool_text.proofs.reply.push_lines.Goals as goal

pub returns-in-Err-clause-err : goal.returns-in-Err-clause-err
returns-in-Err-clause-err c =
    rw c.in-Err.ensures.err (rw c.loop-row.invariant (begins-append c.args.into.now.items (flat_map line (take c.loop-row.row-index c.args.rows.now))))
