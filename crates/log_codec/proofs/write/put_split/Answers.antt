use Rattle.std.proofs.Common.{◌∷◌, [], ◌++◌, SFits, w64}
use Rattle.std.specs.Int.{w32, to_be_bytes}
use Rattle.std.proofs.lemmas.Int.{to_z-of_z}
use Rattle.log_codec.specs.Spelling as spelling
use Rattle.flash_put.proofs.Appending.{more}
use Rattle.log_codec.proofs.write.put_split.Goals as goal

pub returns : goal.returns
returns c =
    let fits : SFits w64 c.args.at = c.ranges.at in
    let at = simp to_z-of_z at c.in_ok-put_i64.ensures in
    let r = c.put_u32.result in
    let new = c.put_u32.new.into.items in
    let tail = more r c.put_u8.new.into.items (spelling.handle c.args.at) (to_be_bytes w32 c.args.child) c.put_i64.new.into.items new at c.put_u32.ensures in
    more r c.args.into.now.items (3 ∷ []) (spelling.handle c.args.at ++ to_be_bytes w32 c.args.child) c.put_u8.new.into.items new c.in_ok-put_u8.ensures tail
