use Rattle.std.proofs.Common.{◌≡◌, ◌+◌, ◌-◌, ◌*◌, ◌∷◌, ◌++◌, [], sym, ap, ◌∙◌, arith}
use Rattle.std.specs.Option.{is_none}
use Rattle.std.proofs.lemmas.List.{length-map}
use Rattle.std.proofs.lemmas.Result.{err_from_is_err_and}
use Rattle.column_codec.specs.Spelling as spelling
use Rattle.column_codec.specs.Nulls.{bitmap_len}
use Rattle.column_codec.proofs.WriteSteps.{starts, goes_on, left_is, fails, is_done, next_byte, no_byte}
use Rattle.column_codec.proofs.write.put_bitmap.Goals as goal

pub loop-j-init : goal.loop-j-init
loop-j-init g c =
    let all = spelling.bytes_from (spelling.are_null c.args.values.now) 0 in
    let count = c.bitmap_len-j-end.result in
    let k : count ≡ count - 0 = omega arith in
    left_is c.args.into.now.items c.args.into.now.items (all count) (all (count - 0)) (all count) (ap all k) (starts c.args.into.now.items (all count))

pub returns-in_err-put_u8 : goal.returns-in_err-put_u8
returns-in_err-put_u8 g c =
    let p = err_from_is_err_and c.from_residual.result c.from_residual.ensures.1 in
    let nulls = spelling.are_null c.args.values.now in
    rw (p.1) (fails c.args.into.now.items c.loop-j.into.items (spelling.bytes_from nulls c.loop-j.j (c.bitmap_len-j-end.result - c.loop-j.j)) (spelling.bytes_from nulls 0 c.bitmap_len-j-end.result) c.put_u8.new.into.items c.loop-j.invariant c.in_err-put_u8.ensures)

pub loop-j-preserved : goal.loop-j-preserved
loop-j-preserved g c =
    let nulls = spelling.are_null c.args.values.now in
    let j = c.loop-j.j in
    let count = c.bitmap_len-j-end.result in
    let total = spelling.bytes_from nulls 0 count in
    let left = spelling.bytes_from nulls (j + 1) (count - (j + 1)) in
    let one = spelling.byte nulls (8 * j) ∷ [] in
    let so_far = left_is c.args.into.now.items c.loop-j.into.items (spelling.bytes_from nulls j (count - j)) (one ++ left) total (next_byte nulls j count c.loop-j-test.true) c.loop-j.invariant in
    goes_on c.args.into.now.items c.loop-j.into.items one left total c.put_u8.new.into.items so_far (c.in_ok-put_u8.ensures ∙ ap (λ b. c.loop-j.into.items ++ b ∷ []) c.byte.ensures)

pub returns : goal.returns
returns g c =
    let nulls = spelling.are_null c.args.values.now in
    let count = c.bitmap_len-j-end.result in
    is_done c.args.into.now.items c.loop-j.into.items (spelling.bytes_from nulls c.loop-j.j (count - c.loop-j.j)) (spelling.bytes_from nulls 0 count) (no_byte nulls c.loop-j.j count c.loop-j-test.false) c.loop-j.invariant
    ∙ ap (λ n. c.args.into.now.items ++ spelling.bytes_from nulls 0 n) (c.bitmap_len-j-end.ensures ∙ ap bitmap_len (sym (length-map c.args.values.now is_none)))
