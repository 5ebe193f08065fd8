use Rattle.std.proofs.Common.{◌≡◌, ◌++◌, subst}
use Rattle.flash_put.proofs.Appending.{more}
use Rattle.region_file.specs.Spelling as spelling
use Rattle.region_file.proofs.put.put_families.Goals as goal

pub returns-clause-bytes : goal.returns-clause-bytes
returns-clause-bytes c =
    let s = c.args.region.now in
    let r = c.put_locks.result in
    let new = c.put_locks.new.into.items in
    let first = subst (λ t. c.put_target.new.into.items ≡ c.args.into.now.items ++ spelling.target t) c.target.ensures c.in_ok-put_target.ensures.bytes in
    let tail = more r c.put_target.new.into.items (spelling.values s.values) (spelling.locks s.locks) c.put_values.new.into.items new c.in_ok-put_values.ensures.bytes c.put_locks.ensures.bytes in
    more r c.args.into.now.items (spelling.target s.target) (spelling.values s.values ++ spelling.locks s.locks) c.put_target.new.into.items new first tail
