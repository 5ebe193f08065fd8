use Rattle.std.proofs.Common.{◌++◌, slice_range}
use Rattle.flash_put.proofs.Appending.{more}
use Rattle.column_codec.specs.declared.list.ListKind.TheVariants as kind
use Rattle.pack_codec.specs.declared.field.Field.TheVariants as field
use Rattle.pack_codec.specs.Spelling.{heads, sized, list_of}
use Rattle.pack_codec.proofs.write.put_heads.Goals as goal

pub returns-clause-bytes : goal.returns-clause-bytes
unfolding heads
returns-clause-bytes c =
    let versions = slice_range c.args.block.now c.args.from c.args.to in
    let handles = sized (list_of kind.Int field.Handle versions) in
    let stamps = sized (list_of kind.Uint field.Stamp versions) in
    let marks = sized (list_of kind.Uint field.Mark versions) in
    let r = c.put_field-3.result in
    let new = c.put_field-3.new.into.items in
    let tail = more r c.put_field.new.into.items stamps marks c.put_field-2.new.into.items new c.in_ok-put_field-2.ensures.bytes c.put_field-3.ensures.bytes in
    more r c.args.into.now.items handles (stamps ++ marks) c.put_field.new.into.items new c.in_ok-put_field.ensures.bytes tail
