use Rattle.std.proofs.Common.{◌∷◌, [], SFits, w64}
use Rattle.std.proofs.lemmas.Int.{to_z-of_z}
use Rattle.flash_put.proofs.Appending.{more}
use Rattle.region_file.specs.Spelling as spelling
use Rattle.region_file.proofs.put.put_end.Goals as goal

pub returns-clause-bytes : goal.returns-clause-bytes
returns-clause-bytes c =
    let fits : SFits w64 c.args.end = c.ranges.end in
    let written = simp to_z-of_z at c.put_i64.ensures in
    more c.put_i64.result c.args.into.now.items (1 ∷ []) (spelling.handle c.args.end) c.put_u8.new.into.items c.put_i64.new.into.items c.in_ok-put_u8.ensures written
