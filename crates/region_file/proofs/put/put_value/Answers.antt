use Rattle.std.proofs.Common.{◌++◌, length, SFits, w64}
use Rattle.std.specs.Int.{to_be_bytes}
use Rattle.std.proofs.lemmas.Int.{to_z-of_z}
use Rattle.flash_put.proofs.Appending.{more}
use Rattle.region_file.specs.Spelling as spelling
use Rattle.region_file.proofs.put.put_value.Goals as goal

pub returns-clause-bytes : goal.returns-clause-bytes
unfolding spelling.value
returns-clause-bytes c =
    let fits : SFits w64 c.args.handle = c.ranges.handle in
    let first = simp to_z-of_z at c.in_ok-put_i64.ensures in
    let r = c.put_text.result in
    let new = c.put_text.new.into.items in
    let text = to_be_bytes w64 (length c.args.text.now) ++ c.args.text.now in
    let tail = more r c.put_i64.new.into.items (to_be_bytes w64 c.args.start) text c.put_u64.new.into.items new c.in_ok-put_u64.ensures c.put_text.ensures.bytes in
    more r c.args.into.now.items (spelling.handle c.args.handle) (to_be_bytes w64 c.args.start ++ text) c.put_i64.new.into.items new first tail
