use Rattle.std.proofs.Common.{◌≡◌, ◌-◌, ◌++◌, slice_range, length, sym, ap, ◌∙◌}
use Rattle.std.specs.List.{flat_map}
use Rattle.flash_put.proofs.Appending.{more}
use Rattle.pack_codec.specs.Spelling.{pack, counts, heads, columns_of, sized}
use Rattle.pack_codec.proofs.FieldSteps.{range_len}
use Rattle.pack_codec.proofs.write.put_pack.Goals as goal

pub returns-clause-bytes : goal.returns-clause-bytes
unfolding pack
returns-clause-bytes c =
    let versions = slice_range c.args.block.now c.args.from c.args.to in
    let columns = c.args.columns.now in
    let len : length versions ≡ c.args.to - c.args.from = range_len c.args.block.now c.args.from c.args.to c.requires.order c.requires.within in
    let first = c.in_ok-put_counts.ensures.bytes ∙ ap (λ n. c.args.into.now.items ++ counts n (length columns)) (sym len) in
    let lists = flat_map sized (columns_of columns 0 versions) in
    let r = c.put_columns.result in
    let new = c.put_columns.new.into.items in
    let tail = more r c.put_counts.new.into.items (heads versions) lists c.put_heads.new.into.items new c.in_ok-put_heads.ensures.bytes c.put_columns.ensures.bytes in
    more r c.args.into.now.items (counts (length versions) (length columns)) (heads versions ++ lists) c.put_counts.new.into.items new first tail
