use Rattle.std.proofs.Common.{◌<◌, ◌^◌, ◌*◌, ◌+◌, ◌-◌, get_or, arith}
use Rattle.column_codec.proofs.Bounds.{small_fits, more_fits, all_fit}
use Rattle.column_codec.proofs.number.+higher_of.Goals as goal

pub returns-then-byte-lt128-clause-below : goal.returns-then-byte-lt128-clause-below
returns-then-byte-lt128-clause-below t c = small_fits _ _ c.if-byte-lt128.true c.if-more-eq0.false

pub returns-clause-below : goal.returns-clause-below
returns-clause-below t c = more_fits (get_or c.args.bytes.now 0 0) c.in_ok-high.high c.args.more (omega (arith, c.type_inv.bytes 0)) c.if-more-eq0.false c.in_ok-high.ensures.below

pub overflow_add-result : goal.overflow_add-result
overflow_add-result t c =
    let sum = get_or c.args.bytes.now 0 0 - 128 + 128 * c.in_ok-high.high in
    let fits : sum < 2 ^ 57 = all_fit sum c.args.more c.requires (more_fits (get_or c.args.bytes.now 0 0) c.in_ok-high.high c.args.more (omega (arith, c.type_inv.bytes 0)) c.if-more-eq0.false c.in_ok-high.ensures.below) in
    omega arith

pub overflow_mul-result : goal.overflow_mul-result
overflow_mul-result t c =
    let sum = get_or c.args.bytes.now 0 0 - 128 + 128 * c.in_ok-high.high in
    let fits : sum < 2 ^ 57 = all_fit sum c.args.more c.requires (more_fits (get_or c.args.bytes.now 0 0) c.in_ok-high.high c.args.more (omega (arith, c.type_inv.bytes 0)) c.if-more-eq0.false c.in_ok-high.ensures.below) in
    omega arith
