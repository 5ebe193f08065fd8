use Rattle.std.proofs.Common.{sym, refl, ◌∙◌}
use Rattle.std.specs.BTreeMap.{is_at}
use Rattle.flash_types.specs.Ranges.{holds}
use Rattle.committed_log.specs.Store.{value_cmp}
use Rattle.log_rows.proofs.Clearing.{all_outside, outside_kept, same_first}
use Rattle.log_rows.proofs.clear.clear_values.Goals as goal

pub loop-key-preserved : goal.loop-key-preserved
loop-key-preserved c =
    outside_kept c.args.range (λ key. key.0) (is_at (value_cmp c.in-Some.key)) c.in-Some.key (same_first c.in-Some.key) c.in-Some.ensures.some.0 c.loop-key.values.entries c.drop_value.new.values.entries c.drop_value.ensures.entries
    ∙ c.loop-key.invariant

pub returns : goal.returns
returns c = sym (all_outside (λ e. holds c.args.range e.0.0) c.loop-key.values.entries (c.in_default.ensures.none refl)) ∙ c.loop-key.invariant
