use Rattle.std.proofs.Common.{◌++◌, ◌∷◌, length}
use Rattle.std.specs.Int.{w32, w64, to_be_bytes}
use Rattle.std.specs.List.{flat_map}
use Rattle.manifest_form.specs.Spelling as spelling
use Rattle.flash_put.proofs.Appending.{more}
use Rattle.manifest_form.proofs.put.put_segment.Goals as goal

pub returns-clause-bytes : goal.returns-clause-bytes
unfolding spelling.segment
returns-clause-bytes c =
    let s = c.args.segment.now in
    more c.put_parts.result c.args.into.now.items (2 ∷ to_be_bytes w32 s.id) (spelling.range s.range ++ (spelling.stable s.stable ++ (to_be_bytes w64 (length s.delta) ++ flat_map spelling.stored s.delta))) c.put_file.new.into.items c.put_parts.new.into.items c.in_ok-put_file.ensures c.put_parts.ensures.bytes
