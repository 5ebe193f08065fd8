use Rattle.std.proofs.Common.{◌≡◌, length, sym, ◌∙◌, arith}
use Rattle.column_block.specs.Order.{rise}
use Rattle.stable_file.proofs.Rising.{rises_on, falls, all_rose}
use Rattle.stable_file.proofs.versions.rise.Goals as goal

pub returns-then-not-is_before-clause-exact : goal.returns-then-not-is_before-clause-exact
returns-then-not-is_before-clause-exact c = falls c.args.block.now c.loop-i.i c.at.result.now c.at-in-loop-i.result.now (rise c.args.block.now) (omega arith) (omega (arith, c.len-i-end.ensures)) c.at.ensures c.at-in-loop-i.ensures (sym c.is_before.ensures ∙ c.if-not-is_before.true) c.loop-i.invariant

pub loop-i-preserved : goal.loop-i-preserved
loop-i-preserved c = rises_on c.args.block.now c.loop-i.i c.at.result.now c.at-in-loop-i.result.now (rise c.args.block.now) (omega arith) (omega (arith, c.len-i-end.ensures)) c.at.ensures c.at-in-loop-i.ensures (sym c.is_before.ensures ∙ c.if-not-is_before.false) c.loop-i.invariant

pub returns-clause-exact : goal.returns-clause-exact
returns-clause-exact c =
    let e : c.loop-i.i ≡ length c.args.block.now = omega (arith, c.len-i-end.ensures, c.len.ensures) in
    all_rose c.args.block.now c.loop-i.i (rise c.args.block.now) (omega (arith, c.len.ensures)) e c.loop-i.invariant
