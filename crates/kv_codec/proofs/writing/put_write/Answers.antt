use Rattle.std.proofs.Common.{◌∷◌, [], ◌++◌, ap, ◌∙◌}
use Rattle.std.specs.Option.{option_map}
use Rattle.kv_codec.specs.Spelling as spelling
use Rattle.flash_put.proofs.Appending.{more}
use Rattle.kv_codec.proofs.writing.put_write.Goals as goal

pub returns : goal.returns
unfolding spelling.write
returns c =
    let r = c.put_short.result in
    let new = c.put_short.new.into.items in
    let number = spelling.number 9 c.args.start in
    let short = spelling.short (option_map (λ s. s.now) c.args.short) in
    let tail = more r c.put_u8.new.into.items number short c.push_number.new.into.items new c.in_ok-push_number.ensures c.put_short.ensures in
    let kind = c.in_ok-put_u8.ensures ∙ ap (λ n. c.args.into.now.items ++ n ∷ []) c.byte_of.ensures in
    more r c.args.into.now.items (spelling.kind_byte c.args.kind ∷ []) (number ++ short) c.put_u8.new.into.items new kind tail
