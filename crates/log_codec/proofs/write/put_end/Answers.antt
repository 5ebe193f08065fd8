use Rattle.std.proofs.Common.{◌∷◌, [], SFits, w64}
use Rattle.std.proofs.lemmas.Int.{to_z-of_z}
use Rattle.log_codec.specs.Spelling as spelling
use Rattle.flash_put.proofs.Appending.{more}
use Rattle.log_codec.proofs.write.put_end.Goals as goal

pub returns : goal.returns
returns c =
    let fits : SFits w64 c.args.end = c.ranges.end in
    let written = simp to_z-of_z at c.put_i64.ensures in
    more c.put_i64.result c.args.into.now.items (1 ∷ []) (spelling.handle c.args.end) c.put_u8.new.into.items c.put_i64.new.into.items c.in_ok-put_u8.ensures written
