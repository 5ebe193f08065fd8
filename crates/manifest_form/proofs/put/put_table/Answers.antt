use Rattle.std.proofs.Common.{length, ◌++◌, SFits, w64}
use Rattle.std.specs.Int.{w16, to_be_bytes}
use Rattle.std.specs.List.{flat_map}
use Rattle.std.proofs.lemmas.Int.{to_z-of_z}
use Rattle.manifest_form.specs.Spelling as spelling
use Rattle.flash_put.proofs.Appending.{more}
use Rattle.manifest_form.proofs.put.put_table.Goals as goal

pub returns-clause-bytes : goal.returns-clause-bytes
returns-clause-bytes c =
    let columns = c.args.columns.now in
    let fits : SFits w64 c.args.table = c.ranges.table in
    let first = simp to_z-of_z at c.in_ok-put_i64.ensures in
    more c.put_columns.result c.args.into.now.items (spelling.handle c.args.table) (to_be_bytes w16 (length columns) ++ flat_map spelling.column columns) c.put_i64.new.into.items c.put_columns.new.into.items first c.put_columns.ensures.bytes
