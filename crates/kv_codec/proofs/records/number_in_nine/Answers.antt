use Rattle.std.proofs.Common.{◌-◌, ◌<◌, get_or, arith}
use Rattle.kv_codec.proofs.Nine.{begins, light, digit_fits, last_byte, goes_on, behind}
use Rattle.kv_codec.proofs.records.number_in_nine.Goals as goal

pub loop-rest-init : goal.loop-rest-init
loop-rest-init c = begins c.args.bytes.now

pub returns-then-byte-lt128 : goal.returns-then-byte-lt128
returns-then-byte-lt128 c =
    let begun = c.loop-rest.invariant in
    begun.read (get_or c.loop-rest.rest.now 0 0) (behind c.loop-rest.rest.now) (last_byte c.loop-rest.more c.loop-rest.rest.now c.if-more-eq0.false c.in-len1-up.len_at_least c.if-byte-lt128.true)

pub overflow_mul-result : goal.overflow_mul-result
overflow_mul-result c =
    let room = light c.loop-rest.weight c.loop-rest.more c.loop-rest.invariant.weights c.if-more-eq0.false in
    omega (arith, room, digit_fits c.loop-rest.low c.loop-rest.weight (get_or c.loop-rest.rest.now 0 0) c.loop-rest.invariant.below c.if-byte-lt128.true)

pub overflow_add-result : goal.overflow_add-result
overflow_add-result c =
    let room = light c.loop-rest.weight c.loop-rest.more c.loop-rest.invariant.weights c.if-more-eq0.false in
    omega (arith, room, digit_fits c.loop-rest.low c.loop-rest.weight (get_or c.loop-rest.rest.now 0 0) c.loop-rest.invariant.below c.if-byte-lt128.true)

pub overflow_mul-low : goal.overflow_mul-low
overflow_mul-low c =
    let room = light c.loop-rest.weight c.loop-rest.more c.loop-rest.invariant.weights c.if-more-eq0.false in
    let digit : get_or c.loop-rest.rest.now 0 0 - 128 < 128 = omega arith in
    omega (arith, room, digit_fits c.loop-rest.low c.loop-rest.weight (get_or c.loop-rest.rest.now 0 0 - 128) c.loop-rest.invariant.below digit)

pub overflow_add-low : goal.overflow_add-low
overflow_add-low c =
    let room = light c.loop-rest.weight c.loop-rest.more c.loop-rest.invariant.weights c.if-more-eq0.false in
    let digit : get_or c.loop-rest.rest.now 0 0 - 128 < 128 = omega arith in
    omega (arith, room, digit_fits c.loop-rest.low c.loop-rest.weight (get_or c.loop-rest.rest.now 0 0 - 128) c.loop-rest.invariant.below digit)

pub overflow_mul-weight : goal.overflow_mul-weight
overflow_mul-weight c = omega (arith, light c.loop-rest.weight c.loop-rest.more c.loop-rest.invariant.weights c.if-more-eq0.false)

pub loop-rest-preserved : goal.loop-rest-preserved
loop-rest-preserved c = goes_on c.loop-rest.low c.loop-rest.weight c.loop-rest.more c.args.bytes.now c.loop-rest.rest.now c.loop-rest.invariant c.if-more-eq0.false c.in-len1-up.len_at_least c.if-byte-lt128.false (omega arith)
