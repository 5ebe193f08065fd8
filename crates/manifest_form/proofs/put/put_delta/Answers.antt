use Rattle.std.proofs.Common.{length}
use Rattle.std.specs.Int.{w64, to_be_bytes}
use Rattle.std.specs.List.{flat_map}
use Rattle.manifest_form.specs.Spelling as spelling
use Rattle.flash_put.proofs.Appending.{more}
use Rattle.manifest_form.proofs.put.put_delta.Goals as goal

pub returns-clause-bytes : goal.returns-clause-bytes
returns-clause-bytes c =
    let files = c.args.files.now in
    more c.put_each.result c.args.into.now.items (to_be_bytes w64 (length files)) (flat_map spelling.stored files) c.put_u64.new.into.items c.put_each.new.into.items c.in_ok-put_u64.ensures c.put_each.ensures.bytes
