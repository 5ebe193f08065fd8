use Rattle.std.proofs.Common.{◌∷◌, [], SFits, w64}
use Rattle.std.specs.Int.{to_be_bytes}
use Rattle.std.proofs.lemmas.Int.{to_z-of_z}
use Rattle.flash_put.proofs.Appending.{more}
use Rattle.kv_codec.specs.Spelling.{lock_kind_byte}
use Rattle.region_file.specs.Spelling as spelling
use Rattle.region_file.proofs.put.put_lock.Goals as goal

pub returns-clause-bytes : goal.returns-clause-bytes
unfolding spelling.lock
returns-clause-bytes c =
    let fits : SFits w64 c.args.handle = c.ranges.handle in
    let first = simp to_z-of_z at c.in_ok-put_i64.ensures in
    let kind = simp c.kind_byte.ensures at c.in_ok-put_u8.ensures in
    let r = c.put_u64.result in
    let new = c.put_u64.new.into.items in
    let tail = more r c.put_i64.new.into.items (lock_kind_byte c.args.kind ∷ []) (to_be_bytes w64 c.args.start) c.put_u8.new.into.items new kind c.put_u64.ensures in
    more r c.args.into.now.items (spelling.handle c.args.handle) (lock_kind_byte c.args.kind ∷ to_be_bytes w64 c.args.start) c.put_i64.new.into.items new first tail
