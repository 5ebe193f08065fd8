-- When the program's reply is right.
use Rattle.std.specs.Prelude.{ℕ, Bool, Option}
use Rattle.column_block.specs.declared.column.Bound.{Bound}
use Rattle.flash_types.specs.Asks.{Asked}
use Rattle.committed_log.specs.Log.{Log}
use Rattle.committed_log.specs.Replies.{IsRight, Refused, Answered}
use Rattle.row_reads.specs.declared.reply.Reply.{Reply}
use Rattle.row_reads.specs.declared.reply.Reply.TheVariants as reply

abbrev pub IsRightReply : Log → Asked → Option Bound → (ℕ → Bool) → ℕ → ℕ → Reply → Type 0
IsRightReply log ask bound A safe mark (reply.Refused why) = IsRight log ask bound A safe mark (Refused why)
IsRightReply log ask bound A safe mark (reply.Answered cuts rows) = IsRight log ask bound A safe mark (Answered cuts rows)
