use Rattle.std.proofs.Common.{rules, ◌≡◌, ◌<◌, length, refl, Some}
use Rattle.std.specs.Prelude.{slice_get}
use Rattle.manifest_form.specs.declared.state.Edit.TheVariants as edit
use Rattle.manifest_form.specs.declared.state.StoredSegment.{StoredSegment}
use Rattle.segment_flush.specs.Names.{stored_of}
use Rattle.segment_flush.proofs.Planned.{index_there}
use Rattle.install_edits.proofs.Loops.{more_mapped}
use Rattle.install_edits.proofs.changes.append_puts.Goals as goal

pub loop-i-preserved : goal.loop-i-preserved
loop-i-preserved g c =
    let lt : c.loop-i.i < length c.args.news.now = search rules in
    let there : slice_get c.args.news.now c.loop-i.i ≡ Some c.index-news-i.result = index_there c.args.news.now c.args.news.now c.loop-i.i c.index-news-i.result refl lt c.index-news-i.is in
    more_mapped stored_of (λ (x : StoredSegment). edit.Segment x) c.args.news.now c.loop-i.i c.index-news-i.result c.args.edits.now.items c.loop-i.edits.items c.append_put.new.edits.items there c.loop-i.invariant c.in_ok-append_put.ensures
