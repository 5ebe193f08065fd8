use Rattle.std.proofs.Common.{◌≡◌, ◌++◌, length, subst}
use Rattle.std.specs.Int.{w64, to_be_bytes}
use Rattle.std.specs.List.{flat_map}
use Rattle.flash_put.proofs.Appending.{more}
use Rattle.region_file.specs.Spelling as spelling
use Rattle.region_file.proofs.put.put_values.Goals as goal

pub returns-clause-bytes : goal.returns-clause-bytes
returns-clause-bytes c =
    let es = c.args.region.now.values in
    more c.put_each_value.result c.args.into.now.items (to_be_bytes w64 (length es)) (flat_map spelling.value es) c.put_u64.new.into.items c.put_each_value.new.into.items
    (subst (λ n. c.put_u64.new.into.items ≡ c.args.into.now.items ++ to_be_bytes w64 n) c.values.ensures c.in_ok-put_u64.ensures) c.put_each_value.ensures.bytes
