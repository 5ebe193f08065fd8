use Rattle.std.proofs.Common.{◌-◌, ◌++◌, ◌≡◌, ◌∙◌, ap, sym, slice_range, length, arith}
use Rattle.flash_put.proofs.Appending.{more}
use Rattle.pack_codec.proofs.FieldSteps.{range_len}
use Rattle.stable_file.specs.Building as building
use Rattle.stable_file.proofs.write.put_entry.Goals as goal

pub returns : goal.returns
unfolding building.entry_of
returns c =
    let versions = slice_range c.args.block.now c.args.from c.args.to in
    let old = c.args.into.now.items in
    let len : length versions ≡ c.args.to - c.args.from = range_len c.args.block.now c.args.from c.args.to (omega (arith, c.requires.some)) c.requires.within in
    let first = c.in_ok-put_sizes.ensures ∙ ap (λ n. old ++ building.sizes c.args.place c.args.len n) (sym len) in
    let ranges = building.ranges c.args.columns.now 0 versions in
    let r = c.put_ranges.result in
    let new = c.put_ranges.new.into.items in
    let tail = more r c.put_sizes.new.into.items (building.handles versions) ranges c.put_handles.new.into.items new c.in_ok-put_handles.ensures c.put_ranges.ensures in
    more r old (building.sizes c.args.place c.args.len (length versions)) _ c.put_sizes.new.into.items new first tail
