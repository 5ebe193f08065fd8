use Rattle.std.proofs.Common.{arith, rules}
use Rattle.learner_read.proofs.Neighbours.{end_tells, next_tells, other_row_tells}
use Rattle.learner_read.proofs.rows.is_shown.Goals as goal

pub returns-then-i-len : goal.returns-then-i-len
returns-then-i-len c = end_tells c.args.ts c.args.block.now c.requires.rise c.args.i c.at-version.result.now c.at-version.ensures c.if-ts-version.false c.if-version.false (omega arith)

pub returns-then-next-version : goal.returns-then-next-version
returns-then-next-version c = other_row_tells c.args.ts c.args.block.now c.requires.rise c.args.i c.at-version.result.now c.at-next.result.now c.at-version.ensures c.if-ts-version.false c.if-version.false c.at-next.ensures (search rules)

pub returns : goal.returns
returns c = next_tells c.args.ts c.args.block.now c.requires.rise c.args.i c.at-version.result.now c.at-next.result.now c.at-version.ensures c.if-ts-version.false c.if-version.false c.at-next.ensures (search rules)
