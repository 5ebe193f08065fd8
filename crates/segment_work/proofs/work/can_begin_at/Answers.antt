use Rattle.std.proofs.Common.{◌∙◌, sym, ap, drop}
use Rattle.delta_layer.specs.declared.built.Job.{Job}
use Rattle.segment_work.specs.Jobs.{can_begin_on}
use Rattle.segment_work.proofs.Begins.{merge_has_next, split_can}
use Rattle.segment_work.proofs.work.can_begin_at.Goals as goal

pub returns-in-Split : goal.returns-in-Split
returns-in-Split g c = sym (ap (λ (j : Job). can_begin_on j (drop c.args.place c.args.slots.now)) c.in-Split.is ∙ split_can c.in-Split.field-0 c.args.slots.now c.args.place c.requires)

pub returns-in-Merge : goal.returns-in-Merge
returns-in-Merge g c = merge_has_next c.in-Merge.field-0 c.args.slots.now c.args.place c.requires ∙ sym (ap (λ (j : Job). can_begin_on j (drop c.args.place c.args.slots.now)) c.in-Merge.is)
