use Rattle.std.proofs.Common.{slice_range, ap}
use Rattle.std.specs.Arc.{arc_value}
use Rattle.column_block.proofs.Lists.{part_of}
use Rattle.column_block.proofs.block.Block.slice.Goals as goal

pub returns : goal.returns
returns c =
    rw (c.in_ok-share_all.ensures.ok, c.new-versions.ensures.items, c.deref.ensures.value, part_of arc_value c.self.inside.versions.items c.args.from c.args.to) (ap (λ all. slice_range all c.args.from c.args.to) c.self.view_is)
