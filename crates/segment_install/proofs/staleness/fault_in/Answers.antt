use Rattle.std.proofs.Common.{◌≡◌, ◌∙◌, ◌+◌, sym, ap, drop, get_or}
use Rattle.std.proofs.lemmas.List.{drop_more}
use Rattle.delta_layer.specs.declared.view.SegmentView.{SegmentView}
use Rattle.segment_list.proofs.Listed.{get_same}
use Rattle.segment_install.specs.Stale.{epoch_of, fault_at, first_fault}
use Rattle.segment_install.proofs.Ready.{fault_here}
use Rattle.segment_install.proofs.staleness.fault_in.Goals as goal

pub returns-then-is_some : goal.returns-then-is_some
returns-then-is_some g c =
    let x : SegmentView g.row.G.Denot = get_or c.args.views.now c.loop-i.i c.index-views-i.result in
    let told : fault_at x.epoch (epoch_of x.seg c.args.list.now) ≡ c.fault_at-fault.result = sym (c.fault_at-fault.ensures ∙ ap (fault_at x.epoch) (c.epoch_of.ensures ∙ ap (λ (v : SegmentView g.row.G.Denot). epoch_of v.seg c.args.list.now) (get_same c.args.views.now c.loop-i.i c.index-views-i-in-loop-i.result c.index-views-i.result c.loop-i-test.true))) in
    sym (sym c.loop-i.invariant ∙ ap (first_fault c.args.list.now) (drop_more c.args.views.now c.loop-i.i c.index-views-i.result c.loop-i-test.true) ∙ fault_here c.args.list.now x (drop (c.loop-i.i + 1) c.args.views.now) c.fault_at-fault.result told (sym c.is_some.ensures ∙ c.if-is_some.true))
