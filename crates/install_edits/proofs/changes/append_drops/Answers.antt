use Rattle.std.proofs.Common.{rules, ◌≡◌, ◌<◌, length, refl, Some}
use Rattle.std.specs.Prelude.{slice_get}
use Rattle.segment_flush.proofs.Planned.{index_there}
use Rattle.install_edits.specs.Edits.{drop_of}
use Rattle.install_edits.proofs.Loops.{more_chosen}
use Rattle.install_edits.proofs.changes.append_drops.Goals as goal

pub loop-i-preserved : goal.loop-i-preserved
loop-i-preserved g c =
    let lt : c.loop-i.i < length c.args.olds.now = search rules in
    let there : slice_get c.args.olds.now c.loop-i.i ≡ Some c.index-olds-i.result = index_there c.args.olds.now c.args.olds.now c.loop-i.i c.index-olds-i.result refl lt c.index-olds-i.is in
    more_chosen (drop_of c.args.news.now) c.args.olds.now c.loop-i.i c.index-olds-i.result c.args.edits.now.items c.loop-i.edits.items c.append_drop.new.edits.items there c.loop-i.invariant c.in_ok-append_drop.ensures
