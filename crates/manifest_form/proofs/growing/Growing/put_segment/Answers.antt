use Rattle.std.proofs.Common.{◌≡◌, ◌∙◌, true, ap, sym, subst, Some}
use Rattle.std.specs.Prelude.{is_some}
use Rattle.std.specs.BTreeMap.{get}
use Rattle.manifest_form.specs.declared.state.State.{State}
use Rattle.manifest_form.specs.Counting.{top_cmp, faults}
use Rattle.manifest_form.specs.States.{placed, without, with_segments, least_handle}
use Rattle.manifest_form.proofs.Growth.{topped_more, topped_placed, without_twice}
use Rattle.manifest_form.proofs.growing.Growing.put_segment.Goals as goal

pub invariant_of-result : goal.invariant_of-result
invariant_of-result c =
    let it = c.state.inside in
    let s = c.args.segment in
    let segments = it.state.segments in
    let state = c.state.view_is ∙ c.drop_segment.ensures in
    let left : segments ≡ without s.id c.args.self.segments = ap (λ (x : State). x.segments) state in
    let put : c.put.new.self ≡ placed s segments = c.in-Ok-put.ensures ∙ ap (placed s) (ap (without s.id) left ∙ without_twice s.id c.args.self.segments ∙ sym left) in
    let own = subst (λ t. is_some (get top_cmp c.add_top.new.tops (t, s.id)) ≡ true) c.top_of.ensures c.in-Ok.ensures.there in
    let others = topped_more (λ q. is_some (get top_cmp it.tops q)) (λ q. is_some (get top_cmp c.add_top.new.tops q)) segments c.in-Ok.ensures.kept c.state.invariant.1 in (
      rw put (c.counted-count.ensures (faults (Some least_handle) segments) (faults (Some least_handle) (placed s segments)) c.state.invariant.0 c.gain-change.ensures),
      rw put (topped_placed (λ q. is_some (get top_cmp c.add_top.new.tops q)) s segments own others),
    )

pub returns : goal.returns
returns c =
    let s = c.args.segment in
    let state = c.state.view_is ∙ c.drop_segment.ensures in
    let left = ap (λ (x : State). x.segments) state in
    let put : c.put.new.self ≡ placed s (without s.id c.args.self.segments) = c.in-Ok-put.ensures ∙ ap (placed s) (ap (without s.id) left ∙ without_twice s.id c.args.self.segments) in
    rw put (ap (λ (x : State). with_segments x (placed s (without s.id c.args.self.segments))) state)
