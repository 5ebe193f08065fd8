use Rattle.std.proofs.Common.{◌++◌, length, SFits}
use Rattle.std.specs.Int.{w16, w64, to_be_bytes}
use Rattle.std.specs.List.{flat_map}
use Rattle.std.proofs.lemmas.Int.{to_z-of_z}
use Rattle.log_codec.specs.Header.{magic}
use Rattle.log_codec.specs.Spelling as spelling
use Rattle.flash_put.proofs.Appending.{more}
use Rattle.log_codec.proofs.write.put_table.Goals as goal

pub returns : goal.returns
returns c =
    let fits : SFits w64 c.args.table = c.ranges.table in
    let handle = simp to_z-of_z at c.in_ok-put_i64.ensures in
    let columns = flat_map spelling.column c.args.columns.now in
    let count = to_be_bytes w16 (length c.args.columns.now) in
    let table = spelling.handle c.args.table in
    let r = c.put_columns.result in
    let new = c.put_columns.new.into.items in
    let four = more r c.put_i64.new.into.items count columns c.put_u16-2.new.into.items new c.in_ok-put_u16-2.ensures c.put_columns.ensures in
    let three = more r c.put_u16.new.into.items table (count ++ columns) c.put_i64.new.into.items new handle four in
    let two = more r c.put_u64.new.into.items (to_be_bytes w16 1) (table ++ (count ++ columns)) c.put_u16.new.into.items new c.in_ok-put_u16.ensures three in
    more r c.args.into.now.items (to_be_bytes w64 magic) (to_be_bytes w16 1 ++ (table ++ (count ++ columns))) c.put_u64.new.into.items new c.in_ok-put_u64.ensures two
