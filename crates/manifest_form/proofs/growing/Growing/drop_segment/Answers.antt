use Rattle.std.proofs.Common.{Some}
use Rattle.std.specs.Prelude.{is_some}
use Rattle.std.specs.BTreeMap.{get}
use Rattle.manifest_form.specs.Counting.{top_cmp, faults}
use Rattle.manifest_form.specs.States.{without, least_handle}
use Rattle.manifest_form.proofs.Growth.{topped_without}
use Rattle.manifest_form.proofs.growing.Growing.drop_segment.Goals as goal

pub invariant_of-result : goal.invariant_of-result
invariant_of-result c =
    let it = c.self.inside in
    let segments = it.state.segments in (
      rw c.remove.ensures (c.counted-count.ensures (faults (Some least_handle) segments) (faults (Some least_handle) (without c.args.id segments)) c.self.invariant.0 c.loss-change.ensures),
      rw c.remove.ensures (topped_without (λ q. is_some (get top_cmp it.tops q)) (λ q. is_some (get top_cmp c.forget_top.new.tops q)) c.args.id segments c.forget_top.ensures c.self.invariant.1),
    )
