use Rattle.std.proofs.Common.{◌≡◌, ◌++◌, ◌∷◌, [], length, subst}
use Rattle.std.specs.Int.{w64, to_be_bytes}
use Rattle.std.specs.List.{flat_map}
use Rattle.flash_put.proofs.Appending.{more}
use Rattle.region_file.specs.Spelling as spelling
use Rattle.region_file.proofs.put.put_file.Goals as goal

pub returns-clause-bytes : goal.returns-clause-bytes
returns-clause-bytes c =
    let es = c.args.entries.now.entries in
    let r = c.put_entries.result in
    let new = c.put_entries.new.into.items in
    let count = subst (λ n. c.put_u64.new.into.items ≡ c.put_bytes.new.into.items ++ to_be_bytes w64 n) c.len.ensures.len c.in_ok-put_u64.ensures in
    let tail = more r c.put_bytes.new.into.items (to_be_bytes w64 (length es)) (flat_map spelling.entry es) c.put_u64.new.into.items new count c.put_entries.ensures.bytes in
    more r c.args.into.now.items (70 ∷ 76 ∷ 82 ∷ 71 ∷ []) (to_be_bytes w64 (length es) ++ flat_map spelling.entry es) c.put_bytes.new.into.items new c.in_ok-put_bytes.ensures tail
