use Rattle.std.proofs.Common.{length, ap, arith, refl}
use Rattle.column_codec.specs.Nulls.{nulls_from}
use Rattle.column_codec.proofs.TextPlaces.{same_place, same_place_lies}
use Rattle.column_codec.proofs.texts.repeated_text.Goals as goal

pub invariant_of-result : goal.invariant_of-result
invariant_of-result c =
    let nulls = nulls_from c.args.bitmap.now 0 c.args.count in
    rw c.in_ok-spans.ensures (same_place_lies (length c.in_ok-bytes.bytes.items) (record { from = 0; to = length c.args.text.now }) nulls (omega arith) (omega (arith, ap length c.in_ok-bytes.ensures.items)))

pub returns : goal.returns
returns c =
    let nulls = nulls_from c.args.bitmap.now 0 c.args.count in
    rw (c.in_ok-spans.ensures, c.in_ok-bytes.ensures.items) (same_place c.args.text.now (record { from = 0; to = length c.args.text.now }) nulls refl refl)
