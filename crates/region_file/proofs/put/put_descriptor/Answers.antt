use Rattle.std.proofs.Common.{◌++◌, subst, rules, SFits, w64}
use Rattle.std.specs.Int.{to_be_bytes}
use Rattle.std.proofs.lemmas.Int.{to_z-of_z}
use Rattle.flash_put.specs.Appending.{Appends}
use Rattle.flash_put.proofs.Appending.{more}
use Rattle.region_file.specs.Spelling as spelling
use Rattle.region_file.proofs.put.put_descriptor.Goals as goal

pub returns-clause-bytes : goal.returns-clause-bytes
returns-clause-bytes c =
    let of = c.args.of in
    let fits : SFits w64 of.range.low = search rules in
    let r = c.put_range.result in
    let new = c.put_range.new.into.items in
    let range = spelling.range of.range in
    let version = to_be_bytes w64 of.epoch.version in
    let conf_ver = to_be_bytes w64 of.epoch.conf_ver in
    let last = more r c.put_u64-2.new.into.items version range c.put_u64-3.new.into.items new c.in_ok-put_u64-3.ensures (subst (λ low. Appends r c.put_u64-3.new.into.items (spelling.handle low ++ spelling.high of.range.high) new) (to_z-of_z w64 _ fits) c.put_range.ensures.bytes) in
    let tail = more r c.put_u64.new.into.items conf_ver (version ++ range) c.put_u64-2.new.into.items new c.in_ok-put_u64-2.ensures last in
    more r c.args.into.now.items (to_be_bytes w64 of.index) (conf_ver ++ (version ++ range)) c.put_u64.new.into.items new c.in_ok-put_u64.ensures tail
