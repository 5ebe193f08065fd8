use Rattle.std.proofs.Common.{◌∷◌, [], sym, ◌∙◌}
use Rattle.flash_put.proofs.Appending.{more}
use Rattle.column_codec.specs.Spelling as spelling
use Rattle.column_codec.proofs.write.put_nulls.Goals as goal

pub returns : goal.returns
unfolding spelling.null_part
returns g c =
    let nulls = spelling.are_null c.args.values.now in
    let some = sym c.none_null.ensures ∙ c.if-none_null.false in
    rw some (more c.put_bitmap.result c.args.into.now.items (1 ∷ []) (spelling.bitmap nulls) c.put_u8-2.new.into.items c.put_bitmap.new.into.items c.in_ok-put_u8.ensures c.put_bitmap.ensures)
