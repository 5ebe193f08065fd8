use Rattle.std.proofs.Common.{◌≡◌, ◌++◌, codes, take}
use Rattle.tool_text.specs.Texts.{hex}
use Rattle.tool_text.proofs.row.push_bytes.Given as goal

abbrev pub invariant-loop-byte : goal.invariant-loop-byte
invariant-loop-byte l = l.into.items ≡ l.fn.into.items ++ codes "x" ++ hex (take l.byte-index l.bytes)
