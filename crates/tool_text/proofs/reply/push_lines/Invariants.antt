use Rattle.std.proofs.Common.{◌≡◌, ◌++◌, take}
use Rattle.std.specs.List.{flat_map}
use Rattle.tool_text.specs.Texts.{line}
use Rattle.tool_text.proofs.reply.push_lines.Given as goal

abbrev pub invariant-loop-row : goal.invariant-loop-row
invariant-loop-row l = l.into.items ≡ l.fn.into.items ++ flat_map line (take l.row-index l.rows)
