use Rattle.std.proofs.Common.{◌++◌, length, List, subst}
use Rattle.std.specs.Int.{w64, to_be_bytes}
use Rattle.std.specs.List.{flat_map}
use Rattle.flash_put.specs.Appending.{Appends}
use Rattle.manifest_form.specs.declared.state.StoredFile.{StoredFile}
use Rattle.manifest_form.specs.Spelling as spelling
use Rattle.flash_put.proofs.Appending.{more}
use Rattle.manifest_form.proofs.put.put_parts.Goals as goal

pub returns-clause-bytes : goal.returns-clause-bytes
returns-clause-bytes c =
    let s = c.args.segment.now in
    let r = c.put_delta.result in
    let new = c.put_delta.new.into.items in
    let delta = to_be_bytes w64 (length s.delta) ++ flat_map spelling.stored s.delta in
    let last : Appends r c.put_stable.new.into.items delta new = subst (λ (xs : List StoredFile). Appends r c.put_stable.new.into.items (to_be_bytes w64 (length xs) ++ flat_map spelling.stored xs) new) c.as_slice.ensures c.put_delta.ensures.bytes in
    let tail = more r c.put_span.new.into.items (spelling.stable s.stable) delta c.put_stable.new.into.items new c.in_ok-put_stable.ensures.bytes last in
    more r c.args.into.now.items (spelling.range s.range) (spelling.stable s.stable ++ delta) c.put_span.new.into.items new c.in_ok-put_span.ensures.bytes tail
