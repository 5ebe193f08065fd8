use Rattle.std.proofs.Common.{length}
use Rattle.std.specs.Int.{w16, to_be_bytes}
use Rattle.std.specs.List.{flat_map}
use Rattle.manifest_form.specs.Spelling as spelling
use Rattle.flash_put.proofs.Appending.{more}
use Rattle.manifest_form.proofs.put.put_columns.Goals as goal

pub returns-clause-bytes : goal.returns-clause-bytes
returns-clause-bytes c =
    let columns = c.args.columns.now in
    more c.put_each_column.result c.args.into.now.items (to_be_bytes w16 (length columns)) (flat_map spelling.column columns) c.put_u16.new.into.items c.put_each_column.new.into.items c.in_ok-put_u16.ensures c.put_each_column.ensures.bytes
