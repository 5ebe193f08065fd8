use Rattle.std.proofs.Common.{SFits, w64, rules, sym, refl, ◌∙◌}
use Rattle.std.proofs.lemmas.Int.{to_z-of_z}
use Rattle.std.specs.BTreeMap.{is_at}
use Rattle.std.specs.Ordering.{int_cmp}
use Rattle.flash_types.specs.Ranges.{holds}
use Rattle.log_rows.proofs.Clearing.{all_outside, outside_kept, same_handle}
use Rattle.log_rows.proofs.clear.clear_handles.Goals as goal

pub loop-handle-smaller : goal.loop-handle-smaller
loop-handle-smaller c =
    let fits : SFits w64 c.in-Some.handle = search rules in
    let len = simp to_z-of_z at c.drop_handle.ensures.len in
    len c.in-Some.ensures.some.1

pub loop-handle-preserved : goal.loop-handle-preserved
loop-handle-preserved c =
    let fits : SFits w64 c.in-Some.handle = search rules in
    let entries = simp to_z-of_z at c.drop_handle.ensures.entries in
    outside_kept c.args.range (λ h. h) (is_at (int_cmp c.in-Some.handle)) c.in-Some.handle (same_handle c.in-Some.handle) c.in-Some.ensures.some.0 c.loop-handle.handles.entries c.drop_handle.new.handles.entries entries
    ∙ c.loop-handle.invariant

pub returns : goal.returns
returns c = sym (all_outside (λ e. holds c.args.range e.0) c.loop-handle.handles.entries (c.in_default.ensures.none refl)) ∙ c.loop-handle.invariant
