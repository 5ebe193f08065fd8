use Rattle.std.proofs.Common.{◌≡◌, ◌∷◌, [], ◌++◌, length, List, ℕ, ap, subst, ◌∙◌}
use Rattle.std.specs.Int.{w16, to_be_bytes}
use Rattle.flash_put.specs.Appending.{Appends}
use Rattle.log_codec.specs.Spelling as spelling
use Rattle.flash_put.proofs.Appending.{more}
use Rattle.log_codec.proofs.write.put_op.Goals as goal

pub returns : goal.returns
unfolding spelling.op
returns c =
    let o = c.args.op.now in
    let value = spelling.value o.put o.value in
    let r = c.put_value.result in
    let new = c.put_value.new.into.items in
    let last : Appends r c.put_bytes-2.new.into.items value new = subst (λ (xs : List ℕ). Appends r c.put_bytes-2.new.into.items (spelling.value o.put xs) new) c.as_slice-2.ensures c.put_value.ensures in
    let tail = more r c.put_u16.new.into.items o.key value c.put_bytes-2.new.into.items new (c.in_ok-put_bytes-2.ensures ∙ ap (λ (xs : List ℕ). c.put_u16.new.into.items ++ xs) c.as_slice.ensures) last in
    let middle = more r c.put_bytes.new.into.items (to_be_bytes w16 (length o.key)) (o.key ++ value) c.put_u16.new.into.items new (c.in_ok-put_u16.ensures ∙ ap (λ n. c.put_bytes.new.into.items ++ to_be_bytes w16 n) c.len.ensures) tail in
    let front = c.in_ok-put_bytes.ensures ∙ ap (λ n. c.args.into.now.items ++ n ∷ c.family_byte.result ∷ []) c.put_byte.ensures ∙ ap (λ n. c.args.into.now.items ++ spelling.put_byte o.put ∷ n ∷ []) c.family_byte.ensures in
    more r c.args.into.now.items (spelling.put_byte o.put ∷ spelling.family_byte o.family ∷ []) (to_be_bytes w16 (length o.key) ++ (o.key ++ value)) c.put_bytes.new.into.items new front middle
