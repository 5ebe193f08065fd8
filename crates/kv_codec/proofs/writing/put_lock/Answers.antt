use Rattle.std.proofs.Common.{◌∷◌, [], ◌++◌, ◌*◌, length, ap, ◌∙◌}
use Rattle.kv_codec.specs.Spelling as spelling
use Rattle.flash_put.proofs.Appending.{more}
use Rattle.kv_codec.proofs.writing.put_lock.Goals as goal

pub returns : goal.returns
unfolding spelling.lock
returns c =
    let r = c.push_number-3.result in
    let new = c.push_number-3.new.into.items in
    let p = c.args.primary.now in
    let size = spelling.number 9 (2 * length p) in
    let start = spelling.number 9 c.args.start in
    let ttl = spelling.number 9 c.args.ttl in
    let sized = c.in_ok-push_number.ensures in
    let last = more r c.put_bytes.new.into.items start ttl c.push_number-2.new.into.items new c.in_ok-push_number-2.ensures c.push_number-3.ensures in
    let three = more r c.push_number.new.into.items p (start ++ ttl) c.put_bytes.new.into.items new c.in_ok-put_bytes.ensures last in
    let two = more r c.put_u8.new.into.items size (p ++ (start ++ ttl)) c.push_number.new.into.items new sized three in
    let kind = c.in_ok-put_u8.ensures ∙ ap (λ n. c.args.into.now.items ++ n ∷ []) c.lock_byte_of.ensures in
    more r c.args.into.now.items (spelling.lock_kind_byte c.args.kind ∷ []) (size ++ (p ++ (start ++ ttl))) c.put_u8.new.into.items new kind two
