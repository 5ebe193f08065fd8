use Rattle.std.proofs.Common.{SFits, w64}
use Rattle.std.proofs.lemmas.Int.{to_z-of_z}
use Rattle.flash_put.proofs.Appending.{more}
use Rattle.region_file.specs.Spelling as spelling
use Rattle.region_file.proofs.put.put_range.Goals as goal

pub returns-clause-bytes : goal.returns-clause-bytes
returns-clause-bytes c =
    let fits : SFits w64 c.args.low = c.ranges.low in
    let first = simp to_z-of_z at c.in_ok-put_i64.ensures in
    more c.put_high.result c.args.into.now.items (spelling.handle c.args.low) (spelling.high c.args.high) c.put_i64.new.into.items c.put_high.new.into.items first c.put_high.ensures.bytes
